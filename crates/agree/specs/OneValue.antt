-- Nodes of one class have one value in every sample, and what `find` finds has the value that its code and its operands' values give. Assumes nothing.
use Rattle.std.specs.Prelude.{◌≡◌, ◌⊎◌, Bool, true, false, cond, length, get_or, eqb}
use Rattle.std.proofs.Math.Path.{refl, sym, ap}
use Rattle.std.proofs.Common.{◌∙◌, inl, inr, eq-or-lt_of_le, le_of_suc-le-suc, not-suc-le-zero, arith, length-append, eqb-true, ltb-true}
use mathlib.Core.List.{List, [], ◌∷◌, ◌++◌}
use Prim.Native.Nat.{ℕ, zero, suc, ◌≤◌, ◌<◌, pred}
use Rattle.std.proofs.Math.Nat.{suc_inj}
use Rattle.std.proofs.Math.ListN.{get_or-append}
use Rattle.std.proofs.lemmas.List.{get_or_at}
use Rattle.std.proofs.lemmas.Bool.{eqb-false}
use Rattle.tables.specs.Tests.{&_both}
use Rattle.block.specs.Block.{code, first, second}
use Rattle.block.specs.Kinds.{kind_of, operands_of}
use Rattle.block.specs.declared.Counts.{Counts}
use Rattle.expand.specs.Good.{good_operands}
use Rattle.expand.specs.Graph.{Graph}
use Rattle.expand.specs.GraphLaws.{GoodGraph}
use Rattle.classes.specs.Classes.{first_place, is_operand, key_of, first_key, second_key, has_keys, class_from, classes_to, find}
use Rattle.memory.specs.Lines.{Memories}
use Rattle.memory.specs.Signals.{Given}
use Rattle.graph_run.specs.Sample.{value_of, node_value, values_to, values}
use Rattle.agree.specs.Codes.{value_same}

-- ---- a table that is built word by word, each from the table before it (a generic law)
module _ (table : ℕ → List ℕ) (word : List ℕ → ℕ → ℕ) (start : table 0 ≡ [])
    (next : (n : ℕ) → table (suc n) ≡ table n ++ (word (table n) n ∷ [])) where
  built_length : (n : ℕ) → length (table n) ≡ n
  built_length zero = ap length start
  built_length (suc n) = let e = built_length n in rw (next n) (simp length-append (omega arith))

  -- word j stays as it was built
  built_at : (n j : ℕ) → j < n → get_or (table n) j 0 ≡ word (table j) j
  built_at zero j h = absurd (not-suc-le-zero h)
  built_at (suc n) j h = rw (next n) (go (eq-or-lt_of_le (le_of_suc-le-suc h)) (built_at n j))
    where
      go : (j ≡ n) ⊎ (j < n) → (j < n → get_or (table n) j 0 ≡ word (table j) j)
          → get_or (table n ++ (word (table n) n ∷ [])) j 0 ≡ word (table j) j
      go (inl p) ih = rw p (get_or_at (table n) (word (table n) n) [] 0 n (built_length n))
      go (inr q) ih = get_or-append (table n) _ 0 j (rw (built_length n) q) ∙ ih q

  -- so any longer table has it
  built_same : (n k j : ℕ) → j < n → j < k → get_or (table n) j 0 ≡ get_or (table k) j 0
  built_same n k j h l = built_at n j h ∙ sym (built_at k j l)

-- ---- the search
pub first_says : (passes : ℕ → Bool) (n j : ℕ) → first_place passes n ≡ suc j → (passes j ≡ true) × (j < n)
unfolding first_place
first_says passes zero j e = absurd (omega arith)
first_says passes (suc n) j e = go (eqb (first_place passes n) 0) (passes n) refl (first_says passes n j) e
  where
    go : (z t : Bool) → passes n ≡ t → (first_place passes n ≡ suc j → (passes j ≡ true) × (j < n))
        → cond z (cond t (suc n) 0) (first_place passes n) ≡ suc j → (passes j ≡ true) × (j < suc n)
    go true true q ih e = let f : j ≡ n = suc_inj (sym e) in (rw f q, omega arith)
    go true false q ih e = absurd (omega arith)
    go false t q ih e = let h = ih e in let l = h.1 in (h.0, omega arith)

-- node j has a code and two keys, where the nodes have these classes
pub record Same (nodes classes : List ℕ) (c x y j : ℕ) : Type 0 where
  pub code : code nodes j ≡ c
  pub left : first_key nodes classes j ≡ x
  pub right : second_key nodes classes j ≡ y

keys_say : (nodes classes : List ℕ) (c x y j : ℕ) → has_keys nodes classes c x y j ≡ true → Same nodes classes c x y j
unfolding has_keys
keys_say nodes classes c x y j e =
    let p = &_both (eqb (code nodes j) c) _ e in
    let q = &_both (eqb (first_key nodes classes j) x) _ p.1 in
    record { code = eqb-true _ _ p.0; left = eqb-true _ _ q.0; right = eqb-true _ _ q.1 }

-- a key goes by the class of an operand alone
key_same : (operand : Bool) (classes others : List ℕ) (word : ℕ) → (operand ≡ true → get_or classes word 0 ≡ get_or others word 0)
    → key_of operand classes word ≡ key_of operand others word
unfolding key_of
key_same true classes others word h = h refl
key_same false classes others word h = refl

-- .. an operand's is its class, any other word's the word
key_operand : (operand : Bool) (classes : List ℕ) (word : ℕ) → operand ≡ true → key_of operand classes word ≡ get_or classes word 0
unfolding key_of
key_operand operand classes word e = rw e

key_word : (operand : Bool) (classes : List ℕ) (word : ℕ) → operand ≡ false → key_of operand classes word ≡ word
unfolding key_of
key_word operand classes word e = rw e

-- ---- the classes and the values of a good graph
abbrev pub classes_of : Graph → List ℕ
classes_of g = classes_to g.nodes g.count

abbrev pub class_at : Graph → ℕ → ℕ
class_at g i = get_or (classes_of g) i 0

-- node i's value in a sample with these words and memories
abbrev pub value_at : Graph → Given → Memories → ℕ → ℕ
value_at g x m i = get_or (values g x m) i 0

module _ {n : Counts} {g : Graph} (good : GoodGraph n g) where
  -- an operand stands before its node
  first_below : (j : ℕ) → j < g.count → is_operand (code g.nodes j) 0 ≡ true → first g.nodes j < j
  unfolding is_operand
  first_below j l t = (good_operands n j _ _ _ (good.nodes j l)).0 (ltb-true 0 (operands_of (kind_of (code g.nodes j))) t)

  second_below : (j : ℕ) → j < g.count → is_operand (code g.nodes j) 1 ≡ true → second g.nodes j < j
  unfolding is_operand
  second_below j l t = (good_operands n j _ _ _ (good.nodes j l)).1 (ltb-true 1 (operands_of (kind_of (code g.nodes j))) t)

  -- ---- classes
  class_built : (i k j : ℕ) → j < i → j < k → get_or (classes_to g.nodes i) j 0 ≡ get_or (classes_to g.nodes k) j 0
  unfolding classes_to
  class_built = built_same (classes_to g.nodes) (class_from g.nodes) refl (λ i. refl)

  -- the keys by the classes of the first nodes are the keys by all classes
  first_key_lem : (i j : ℕ) → j ≤ i → j < g.count → first_key g.nodes (classes_to g.nodes i) j ≡ first_key g.nodes (classes_of g) j
  unfolding first_key
  first_key_lem i j h l = key_same (is_operand (code g.nodes j) 0) _ _ _ (λ t. let f = first_below j l t in class_built i g.count _ (omega arith) (omega arith))

  second_key_lem : (i j : ℕ) → j ≤ i → j < g.count → second_key g.nodes (classes_to g.nodes i) j ≡ second_key g.nodes (classes_of g) j
  unfolding second_key
  second_key_lem i j h l = key_same (is_operand (code g.nodes j) 1) _ _ _ (λ t. let f = second_below j l t in class_built i g.count _ (omega arith) (omega arith))

  -- what is found has the code and the keys
  pub find_says : (c x y j : ℕ) → find g.nodes g.count c x y ≡ suc j → Same g.nodes (classes_of g) c x y j × (j < g.count)
  unfolding find
  find_says c x y j e = let h = first_says _ g.count j e in (keys_say g.nodes _ c x y j h.0, h.1)

  -- a node's class has its code and its keys, and is no later node
  class_says : (i : ℕ) → i < g.count
      → Same g.nodes (classes_of g) (code g.nodes i) (first_key g.nodes (classes_of g) i) (second_key g.nodes (classes_of g) i) (class_at g i) × (class_at g i ≤ i)
  unfolding classes_to class_from
  class_says i l = rw (built_at (classes_to g.nodes) (class_from g.nodes) refl (λ k. refl) g.count i l) (own (found before) refl (eqb (found before) 0) refl)
    where
      before : List ℕ
      before = classes_to g.nodes i

      found : List ℕ → ℕ
      found classes = first_place (has_keys g.nodes classes (code g.nodes i) (first_key g.nodes classes i) (second_key g.nodes classes i)) i

      own : (r : ℕ) → found before ≡ r → (z : Bool) → eqb r 0 ≡ z
          → Same g.nodes (classes_of g) (code g.nodes i) (first_key g.nodes (classes_of g) i) (second_key g.nodes (classes_of g) i) (cond z i (pred r)) × (cond z i (pred r) ≤ i)
      own r e true p = (record { code = refl; left = refl; right = refl }, omega arith)
      own zero e false p = absurd (eqb-false 0 0 p refl)
      own (suc j) e false p =
          let h = first_says _ i j e in let q = h.1 in
          let k = keys_say g.nodes before _ _ _ j h.0 in (
            record {
              code = k.code;
              left = sym (first_key_lem i j (omega arith) (omega arith)) ∙ (k.left ∙ first_key_lem i i (omega arith) l);
              right = sym (second_key_lem i j (omega arith) (omega arith)) ∙ (k.right ∙ second_key_lem i i (omega arith) l);
            },
            omega arith,
          )

  module _ (x : Given) (m : Memories) where
    value_built : (i k j : ℕ) → j < i → j < k → get_or (values_to g.nodes g.delay_lengths x m i) j 0 ≡ get_or (values_to g.nodes g.delay_lengths x m k) j 0
    unfolding values_to
    value_built = built_same (values_to g.nodes g.delay_lengths x m) (node_value g.nodes g.delay_lengths x m) refl (λ i. refl)

    -- a node's value is what its code and words give, from the values of all nodes
    value_own : (i : ℕ) → i < g.count → value_at g x m i ≡ value_of g.delay_lengths x m (values g x m) (code g.nodes i) (first g.nodes i) (second g.nodes i)
    unfolding values_to node_value
    value_own i l =
        built_at (values_to g.nodes g.delay_lengths x m) (node_value g.nodes g.delay_lengths x m) refl (λ k. refl) g.count i l
        ∙ value_same g.delay_lengths x m _ _ (code g.nodes i) _ _ _ _
        (λ t. let f = first_below i l t in value_built i g.count _ f (omega arith))
        (λ _. refl)
        (λ t. let f = second_below i l t in value_built i g.count _ f (omega arith))

    -- .. and what its code and keys give, where the nodes before it have their classes' values
    value_keys : (i : ℕ) → i < g.count → ((j : ℕ) → j < i → value_at g x m j ≡ value_at g x m (class_at g j))
        → value_at g x m i ≡ value_of g.delay_lengths x m (values g x m) (code g.nodes i) (first_key g.nodes (classes_of g) i) (second_key g.nodes (classes_of g) i)
    unfolding first_key second_key
    value_keys i l before =
        let c = code g.nodes i in
        let left = first g.nodes i in
        let right = second g.nodes i in
        let own : ℕ → ℕ = value_at g x m in
        value_own i l
        ∙ value_same g.delay_lengths x m _ _ c _ _ _ _
        (λ t. before left (first_below i l t) ∙ ap own (sym (key_operand (is_operand c 0) (classes_of g) left t)))
        (λ t. sym (key_word (is_operand c 0) (classes_of g) left t))
        (λ t. before right (second_below i l t) ∙ ap own (sym (key_operand (is_operand c 1) (classes_of g) right t)))

    class_below : (k i : ℕ) → i < k → i < g.count → value_at g x m i ≡ value_at g x m (class_at g i)
    class_below zero i h l = absurd (not-suc-le-zero h)
    class_below (suc k) i h l =
        let (s, q) = class_says i l in
        let before : (j : ℕ) → j < k → j < g.count → value_at g x m j ≡ value_at g x m (class_at g j) = class_below k in
        value_keys i l (λ j r. before j (omega arith) (omega arith))
        ∙ rw (← s.code, ← s.left, ← s.right) (sym (value_keys (class_at g i) (omega arith) (λ j r. before j (omega arith) (omega arith))))

    -- NODES OF ONE CLASS HAVE ONE VALUE: a node has the value of its class's first node
    pub class_value : (i : ℕ) → i < g.count → value_at g x m i ≡ value_at g x m (class_at g i)
    class_value i l = class_below (suc i) i (omega arith) l

    -- .. so two nodes of one class have one
    pub one_value : (i j : ℕ) → i < g.count → j < g.count → class_at g i ≡ class_at g j → value_at g x m i ≡ value_at g x m j
    one_value i j h l e = class_value i h ∙ (ap (value_at g x m) e ∙ sym (class_value j l))

    -- WHAT IS FOUND has the value that its code and its operands' values, or its words, give
    pub find_value : (c p q j : ℕ) → find g.nodes g.count c p q ≡ suc j → value_at g x m j ≡ value_of g.delay_lengths x m (values g x m) c p q
    find_value c p q j f =
        let (s, l) = find_says c p q j f in
        value_keys j l (λ i h. class_value i (omega arith)) ∙ rw (s.code, s.left, s.right)
