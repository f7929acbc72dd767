-- "Expanded nodes are of one class if they have the same code and the same constant bits or index, or operands of the same classes in order", as a relation of
-- nodes, and that `classes_to` gives two nodes one number exactly when they are of one class: `one_class_exactly`. Assumes nothing.
use Rattle.std.specs.Prelude.{◌≡◌, refl, ◌↔◌, List, ℕ, zero, suc, ◌≤◌, ◌<◌, get_or}
use Rattle.std.proofs.Common.{sym, ap, ◌∙◌, not-suc-le-zero, arith, ltb-true, lt-ltb, le-ltb}
use Rattle.std.proofs.Math.Decide.{dec_lt}
use Rattle.block.specs.declared.Kind.{Kind}
use Rattle.block.specs.declared.Kind.TheVariants.{Source, Constant, Parameter, State, Delay, Binary, Divide, Unary, Recip, Tanh, Sigmoid, Unknown}
use Rattle.block.specs.Block.{code, first, second}
use Rattle.block.specs.Kinds.{kind_of, operands_of}
use Rattle.block.specs.declared.Counts.{Counts}
use Rattle.expand.specs.Graph.{Graph}
use Rattle.expand.specs.Good.{good_operands}
use Rattle.expand.specs.GraphLaws.{GoodGraph}
use Rattle.classes.specs.Classes.{is_operand, key_of, first_key, second_key, classes_to, find}
use Rattle.classes.specs.ClassLaws.{class_of, class_at, own_first, own_second, Same, Backward, one_class, find_says, finds, find_class, find_own}

-- how many of node i's two words are operands
abbrev pub operands : List ℕ → ℕ → ℕ
operands nodes i = operands_of (kind_of (code nodes i))

-- ---- the sentence

pub data OneClass (nodes : List ℕ) : ℕ → ℕ → Type 0 where
  -- "the same code and the same constant bits or index"
  same_words : {i j : ℕ} → operands nodes i ≡ 0 → code nodes i ≡ code nodes j → first nodes i ≡ first nodes j → second nodes i ≡ second nodes j → OneClass nodes i j
  -- "or operands of the same classes": of one operand; the other word is unused
  same_operand : {i j : ℕ} → operands nodes i ≡ 1 → code nodes i ≡ code nodes j → OneClass nodes (first nodes i) (first nodes j)
      → second nodes i ≡ second nodes j → OneClass nodes i j
  -- ".. in order": of two operands
  same_operands : {i j : ℕ} → operands nodes i ≡ 2 → code nodes i ≡ code nodes j → OneClass nodes (first nodes i) (first nodes j)
      → OneClass nodes (second nodes i) (second nodes j) → OneClass nodes i j

-- ---- a node's keys by the number of its operands

-- operands stand before their node in the expansion of a valid block
pub good_backward : (n : Counts) (g : Graph) → GoodGraph n g → Backward g.nodes g.count
unfolding is_operand
good_backward n g good =
    record {
      first = λ i h t. (good_operands n i _ _ _ (good.nodes i h)).0 (ltb-true 0 (operands g.nodes i) t);
      second = λ i h t. (good_operands n i _ _ _ (good.nodes i h)).1 (ltb-true 1 (operands g.nodes i) t);
    }

-- no node has more than two
operands_few : (kind : Kind) → operands_of kind ≤ 2
operands_few Source = omega arith
operands_few Constant = omega arith
operands_few Parameter = omega arith
operands_few State = omega arith
operands_few Delay = omega arith
operands_few Binary = omega arith
operands_few Divide = omega arith
operands_few Unary = omega arith
operands_few Recip = omega arith
operands_few Tanh = omega arith
operands_few Sigmoid = omega arith
operands_few Unknown = omega arith

module _ (nodes : List ℕ) where
  -- a word that is no operand is its own key
  pub first_word : (i : ℕ) → operands nodes i ≡ 0 → own_first nodes i ≡ first nodes i
  unfolding own_first first_key key_of is_operand
  first_word i e = rw (le-ltb 0 (operands nodes i) (omega arith))

  pub second_word : (i : ℕ) → operands nodes i ≤ 1 → own_second nodes i ≡ second nodes i
  unfolding own_second second_key key_of is_operand
  second_word i h = rw (le-ltb 1 (operands nodes i) h)

  module _ (n : ℕ) (back : Backward nodes n) where
    first_before : (i : ℕ) → i < n → 1 ≤ operands nodes i → first nodes i < i
    unfolding is_operand
    first_before i h o = back.first i h (lt-ltb 0 (operands nodes i) o)

    second_before : (i : ℕ) → i < n → 2 ≤ operands nodes i → second nodes i < i
    unfolding is_operand
    second_before i h o = back.second i h (lt-ltb 1 (operands nodes i) o)

    -- an operand's key is its class
    first_class : (i : ℕ) → i < n → 1 ≤ operands nodes i → own_first nodes i ≡ class_of nodes (first nodes i)
    unfolding own_first first_key key_of is_operand
    first_class i h o = rw (lt-ltb 0 (operands nodes i) o) (class_at nodes i (first nodes i) (first_before i h o))

    second_class : (i : ℕ) → i < n → 2 ≤ operands nodes i → own_second nodes i ≡ class_of nodes (second nodes i)
    unfolding own_second second_key key_of is_operand
    second_class i h o = rw (lt-ltb 1 (operands nodes i) o) (class_at nodes i (second nodes i) (second_before i h o))

    pub first_number : (i : ℕ) → i < n → 1 ≤ operands nodes i → own_first nodes i ≡ get_or (classes_to nodes n) (first nodes i) 0
    first_number i h o = let b = first_before i h o in first_class i h o ∙ sym (class_at nodes n (first nodes i) (omega arith))

    pub second_number : (i : ℕ) → i < n → 2 ≤ operands nodes i → own_second nodes i ≡ get_or (classes_to nodes n) (second nodes i) 0
    second_number i h o = let b = second_before i h o in second_class i h o ∙ sym (class_at nodes n (second nodes i) (omega arith))

    -- ---- of one class, one number

    one_number : (i j : ℕ) → i < n → j < n → OneClass nodes i j → class_of nodes i ≡ class_of nodes j
    one_number i j h l (same_words o c x y) =
        let o' : operands nodes j ≡ 0 = rw (← c) o in
        (one_class nodes n back i j h l).1
        (record {
          code = c;
          first = first_word i o ∙ x ∙ sym (first_word j o');
          second = second_word i (omega arith) ∙ y ∙ sym (second_word j (omega arith));
        })
    one_number i j h l (same_operand o c x y) =
        let o' : operands nodes j ≡ 1 = rw (← c) o in
        let b = first_before i h (omega arith) in
        let b' = first_before j l (omega arith) in
        (one_class nodes n back i j h l).1
        (record {
          code = c;
          first = first_class i h (omega arith) ∙ one_number _ _ (omega arith) (omega arith) x ∙ sym (first_class j l (omega arith));
          second = second_word i (omega arith) ∙ y ∙ sym (second_word j (omega arith));
        })
    one_number i j h l (same_operands o c x y) =
        let o' : operands nodes j ≡ 2 = rw (← c) o in
        let b = first_before i h (omega arith) in
        let b' = first_before j l (omega arith) in
        let d = second_before i h (omega arith) in
        let d' = second_before j l (omega arith) in
        (one_class nodes n back i j h l).1
        (record {
          code = c;
          first = first_class i h (omega arith) ∙ one_number _ _ (omega arith) (omega arith) x ∙ sym (first_class j l (omega arith));
          second = second_class i h (omega arith) ∙ one_number _ _ (omega arith) (omega arith) y ∙ sym (second_class j l (omega arith));
        })

    -- by recursion on a bound, for the nodes below it
    number_one : (m i j : ℕ) → i < m → i < n → j < n → class_of nodes i ≡ class_of nodes j → OneClass nodes i j
    number_one zero i j m h l e = absurd (not-suc-le-zero m)
    number_one (suc m) i j q h l e = go (operands nodes i) refl (number_one m)
      where
        k : Same nodes (code nodes j) (own_first nodes j) (own_second nodes j) i
        k = (one_class nodes n back i j h l).0 e

        same : operands nodes i ≡ operands nodes j
        same = ap (λ (c : ℕ). operands_of (kind_of c)) k.code

        go : (r : ℕ) → operands nodes i ≡ r → ((a b : ℕ) → a < m → a < n → b < n → class_of nodes a ≡ class_of nodes b → OneClass nodes a b) → OneClass nodes i j
        go zero o ih =
            same_words o k.code (sym (first_word i o) ∙ k.first ∙ first_word j (sym same ∙ o))
            (sym (second_word i (omega arith)) ∙ k.second ∙ second_word j (omega (arith, same)))
        go (suc zero) o ih =
            let b = first_before i h (omega arith) in
            let b' = first_before j l (omega (arith, same)) in
            same_operand o k.code
            (ih _ _ (omega arith) (omega arith) (omega arith) (sym (first_class i h (omega arith)) ∙ k.first ∙ first_class j l (omega (arith, same))))
            (sym (second_word i (omega arith)) ∙ k.second ∙ second_word j (omega (arith, same)))
        go (suc (suc zero)) o ih =
            let b = first_before i h (omega arith) in
            let b' = first_before j l (omega (arith, same)) in
            let d = second_before i h (omega arith) in
            let d' = second_before j l (omega (arith, same)) in
            same_operands o k.code
            (ih _ _ (omega arith) (omega arith) (omega arith) (sym (first_class i h (omega arith)) ∙ k.first ∙ first_class j l (omega (arith, same))))
            (ih _ _ (omega arith) (omega arith) (omega arith) (sym (second_class i h (omega arith)) ∙ k.second ∙ second_class j l (omega (arith, same))))
        go (suc (suc (suc r))) o ih = absurd (omega (arith, operands_few (kind_of (code nodes i))))

    -- TWO NODES HAVE ONE NUMBER EXACTLY WHEN THEY ARE OF ONE CLASS
    pub one_class_exactly : (i j : ℕ) → i < n → j < n → get_or (classes_to nodes n) i 0 ≡ get_or (classes_to nodes n) j 0 ↔ OneClass nodes i j
    one_class_exactly i j h l = (
      λ e. number_one (suc i) i j (omega arith) h l (sym (class_at nodes n i h) ∙ e ∙ class_at nodes n j l),
      λ o. class_at nodes n i h ∙ one_number i j h l o ∙ sym (class_at nodes n j l),
    )

    -- ---- the nodes of a code and two keys

    -- what is found is the first of them, so its own class
    pub class_is_node : (c x y k : ℕ) → find nodes n c x y ≡ suc k ↔ (k < n) × Same nodes c x y k × ((i : ℕ) → i < k → Same nodes c x y i → ⊥)
    class_is_node c x y k = (
      λ e.
          let (s, l) = find_says nodes n back c x y k e in
          (l, s, λ i h t. let (r, f, q) = finds nodes n back c x y i (omega arith) t in omega arith),
      λ (l, s, z).
          let (r, f, q) = finds nodes n back c x y k l s in
          let (t, b) = find_says nodes n back c x y r f in
          f ∙ ap suc (go r q (z r) t (dec_lt r k)),
    )
      where
        go : (r : ℕ) → r ≤ k → (r < k → Same nodes c x y r → ⊥) → Same nodes c x y r → Dec (r < k) → r ≡ k
        go r q z t (yes h) = absurd (z h t)
        go r q z t (no h) = omega arith

    -- what is found is its own class
    pub found_own : (c x y k : ℕ) → find nodes n c x y ≡ suc k → get_or (classes_to nodes n) k 0 ≡ k
    found_own c x y k e = class_at nodes n k (find_says nodes n back c x y k e).1 ∙ find_class nodes n back c x y k e

    -- of any of them the class is found
    pub node_found : (c x y j : ℕ) → j < n → Same nodes c x y j → find nodes n c x y ≡ suc (get_or (classes_to nodes n) j 0)
    node_found c x y j l s = rw (← s.code, ← s.first, ← s.second) (find_own nodes n back j l) ∙ ap suc (sym (class_at nodes n j l))
