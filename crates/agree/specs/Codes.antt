-- What a node's code makes of its operands' values, code by code. The one file that opens `value_of` and `operate`: all others cite these laws. Assumes
-- nothing.
use Rattle.std.specs.Prelude.{◌≡◌, Bool, List, ℕ}
use Rattle.std.proofs.Math.Path.{refl, ap}
use Rattle.std.proofs.Common.{sym, ◌∙◌, eqb-true}
use Rattle.std.proofs.Math.Bool.{true, false}
use Rattle.std.proofs.Math.ListN.{get_or}
use Rattle.std.proofs.Math.Dec.{eqb}
use Rattle.tables.specs.Tests.{true_false, cond_arms}
use Rattle.words.specs.Operations.{added, subtracted, multiplied, lesser, greater, negated, absolute, wrapping_difference, operate}
use Rattle.block.specs.Kinds.{kind_of}
use Rattle.classes.specs.Classes.{is_operand}
use Rattle.memory.specs.Lines.{Memories, read_delay}
use Rattle.memory.specs.Signals.{Given}
use Rattle.graph_run.specs.Sample.{value_of}

-- ---- which words a code reads as operands

-- of a code that is known
at_code : (c d k : ℕ) {b : Bool} → eqb c d ≡ true → is_operand d k ≡ b → is_operand c k ≡ b
at_code c d k {b} e h = let q = eqb-true c d e in rw q h

-- a code that reads no second operand makes the same of any second word
second_unread : (c a b b' : ℕ) → is_operand c 1 ≡ false → operate c a b ≡ operate c a b'
unfolding operate is_operand kind_of
second_unread c a b b' h =
    cond_arms (eqb c 5) (λ e. reads 5 e refl)
    (λ _. cond_arms (eqb c 6) (λ e. reads 6 e refl)
    (λ _. cond_arms (eqb c 7) (λ e. reads 7 e refl)
    (λ _. cond_arms (eqb c 8) (λ e. reads 8 e refl)
    (λ _. cond_arms (eqb c 9) (λ e. reads 9 e refl)
    (λ _. cond_arms (eqb c 10) (λ e. reads 10 e refl) (λ _. refl))))))
  where
    reads : {A : Type 0} (d : ℕ) → eqb c d ≡ true → is_operand d 1 ≡ true → A
    reads d e q = true_false (sym (at_code c d 1 e q) ∙ h)

-- a code that reads no operand makes the same of any words
both_unread : (c a a' b b' : ℕ) → is_operand c 0 ≡ false → operate c a b ≡ operate c a' b'
unfolding operate is_operand kind_of
both_unread c a a' b b' h =
    cond_arms (eqb c 5) (λ e. reads 5 e refl)
    (λ _. cond_arms (eqb c 6) (λ e. reads 6 e refl)
    (λ _. cond_arms (eqb c 7) (λ e. reads 7 e refl)
    (λ _. cond_arms (eqb c 8) (λ e. reads 8 e refl)
    (λ _. cond_arms (eqb c 9) (λ e. reads 9 e refl)
    (λ _. cond_arms (eqb c 10) (λ e. reads 10 e refl)
    (λ _. cond_arms (eqb c 12) (λ e. reads 12 e refl)
    (λ _. cond_arms (eqb c 13) (λ e. reads 13 e refl) (λ _. refl))))))))
  where
    reads : {A : Type 0} (d : ℕ) → eqb c d ≡ true → is_operand d 0 ≡ true → A
    reads d e q = true_false (sym (at_code c d 0 e q) ∙ h)

operate_same : (c a a' b b' : ℕ) → (is_operand c 0 ≡ true → a ≡ a') → (is_operand c 1 ≡ true → b ≡ b') → operate c a b ≡ operate c a' b'
operate_same c a a' b b' ha hb = go (is_operand c 0) (is_operand c 1) refl refl
  where
    go : (p q : Bool) → is_operand c 0 ≡ p → is_operand c 1 ≡ q → operate c a b ≡ operate c a' b'
    go true true p q = rw (ha p, hb q)
    go true false p q = rw (ha p) (second_unread c a' b b' q)
    go false true p q = both_unread c a a' b b' p
    go false false p q = both_unread c a a' b b' p

-- ---- a value goes by the operands' values, or by the word itself
module _ (lengths : List ℕ) (x : Given) (m : Memories) where
  -- two nodes of one code whose first operands have one value, or whose first words are the same, and whose second operands have one value
  pub value_same : (vs ws : List ℕ) (c i i' j j' : ℕ) → (is_operand c 0 ≡ true → get_or vs i 0 ≡ get_or ws i' 0) → (is_operand c 0 ≡ false → i ≡ i')
      → (is_operand c 1 ≡ true → get_or vs j 0 ≡ get_or ws j' 0) → value_of lengths x m vs c i j ≡ value_of lengths x m ws c i' j'
  unfolding value_of is_operand kind_of
  value_same vs ws c i i' j j' hv hw hs =
      cond_arms (eqb c 0) (λ _. refl)
      (λ _. cond_arms (eqb c 1) (λ e. word 1 e refl)
      (λ _. cond_arms (eqb c 2) (λ e. ap (λ k. get_or x.parameters k 0) (word 2 e refl))
      (λ _. cond_arms (eqb c 3) (λ e. ap (λ k. get_or m.states k 0) (word 3 e refl))
      (λ _. cond_arms (eqb c 4) (λ e. ap (read_delay lengths m) (word 4 e refl))
      (λ _. cond_arms (eqb c 17) (λ _. refl) (λ _. operate_same c _ _ _ _ hv hs))))))
    where
      word : (d : ℕ) → eqb c d ≡ true → is_operand d 0 ≡ false → i ≡ i'
      word d e q = hw (at_code c d 0 e q)

  -- ---- the value of each code
  module _ (vs : List ℕ) (i j : ℕ) where
    pub value_input : value_of lengths x m vs 0 i j ≡ x.audio
    unfolding value_of
    value_input = refl

    pub value_constant : value_of lengths x m vs 1 i j ≡ i
    unfolding value_of
    value_constant = refl

    pub value_parameter : value_of lengths x m vs 2 i j ≡ get_or x.parameters i 0
    unfolding value_of
    value_parameter = refl

    pub value_state : value_of lengths x m vs 3 i j ≡ get_or m.states i 0
    unfolding value_of
    value_state = refl

    pub value_delay : value_of lengths x m vs 4 i j ≡ read_delay lengths m i
    unfolding value_of
    value_delay = refl

    pub value_network : value_of lengths x m vs 17 i j ≡ x.network
    unfolding value_of
    value_network = refl

    pub value_add : value_of lengths x m vs 5 i j ≡ added (get_or vs i 0) (get_or vs j 0)
    unfolding value_of operate
    value_add = refl

    pub value_sub : value_of lengths x m vs 6 i j ≡ subtracted (get_or vs i 0) (get_or vs j 0)
    unfolding value_of operate
    value_sub = refl

    pub value_mul : value_of lengths x m vs 7 i j ≡ multiplied (get_or vs i 0) (get_or vs j 0)
    unfolding value_of operate
    value_mul = refl

    pub value_min : value_of lengths x m vs 8 i j ≡ lesser (get_or vs i 0) (get_or vs j 0)
    unfolding value_of operate
    value_min = refl

    pub value_max : value_of lengths x m vs 9 i j ≡ greater (get_or vs i 0) (get_or vs j 0)
    unfolding value_of operate
    value_max = refl

    pub value_integer_sub : value_of lengths x m vs 10 i j ≡ wrapping_difference (get_or vs i 0) (get_or vs j 0)
    unfolding value_of operate
    value_integer_sub = refl

    pub value_neg : value_of lengths x m vs 12 i j ≡ negated (get_or vs i 0)
    unfolding value_of operate
    value_neg = refl

    pub value_abs : value_of lengths x m vs 13 i j ≡ absolute (get_or vs i 0)
    unfolding value_of operate
    value_abs = refl
