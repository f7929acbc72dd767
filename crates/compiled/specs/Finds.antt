-- What the checker finds for a node's code and held operands is the node's class: `find_leaf`, `find_unary`, `find_binary`; and what it finds is a node:
-- `found_node`. Of a good graph. Assumes nothing.
use Rattle.std.specs.Prelude.{◌≡◌, refl, Bool, false, List, ℕ, suc, ◌≤◌, ◌<◌, get_or}
use Rattle.std.proofs.Common.{sym, ◌∙◌, arith, ltb-true}
use Rattle.std.proofs.Math.Path.{ap}
use Rattle.std.proofs.Math.Bool.{true}
use Rattle.block.specs.Block.{code, first, second}
use Rattle.block.specs.Kinds.{kind_of, operands_of}
use Rattle.block.specs.declared.Counts.{Counts}
use Rattle.expand.specs.Graph.{Graph}
use Rattle.expand.specs.Good.{good_operands}
use Rattle.expand.specs.GraphLaws.{GoodGraph}
use Rattle.classes.specs.Classes.{is_operand, key_of, first_key, second_key, classes_to}
use Rattle.classes.specs.ClassLaws.{Backward, Same, class_of, class_at, class_says, class_least, own_first, own_second, find_says, finds}
use Rattle.checker.specs.Walk as Checker

-- an operand of this kind
reads_first : (c : ℕ) → is_operand c 0 ≡ true → 1 ≤ operands_of (kind_of c)
unfolding is_operand
reads_first c t = ltb-true 0 (operands_of (kind_of c)) t

reads_second : (c : ℕ) → is_operand c 1 ≡ true → 2 ≤ operands_of (kind_of c)
unfolding is_operand
reads_second c t = ltb-true 1 (operands_of (kind_of c)) t

-- a key by its word
key_word : (operand : Bool) (table : List ℕ) (x : ℕ) → operand ≡ false → key_of operand table x ≡ x
unfolding key_of
key_word operand table x e = rw e

key_class : (operand : Bool) (table : List ℕ) (x : ℕ) → operand ≡ true → key_of operand table x ≡ get_or table x 0
unfolding key_of
key_class operand table x e = rw e

module _ (n : Counts) (g : Graph) (good : GoodGraph n g) where
  -- operands stand before their node
  pub backward : Backward g.nodes g.count
  backward =
      record {
        first = λ i h t. (good_operands n i _ _ _ (good.nodes i h)).0 (reads_first (code g.nodes i) t);
        second = λ i h t. (good_operands n i _ _ _ (good.nodes i h)).1 (reads_second (code g.nodes i) t);
      }

  -- node i's class, as the checker's table has it
  abbrev pub class_in : ℕ → ℕ
  class_in i = get_or (classes_to g.nodes g.count) i 0

  -- what is found is a node of the code and keys
  pub found_node : (c x y i : ℕ) → Checker.class_of g c x y ≡ suc i → Same g.nodes c x y i × (i < g.count)
  found_node c x y i e = find_says g.nodes g.count backward c x y i e

  find_own : (i : ℕ) → i < g.count → Checker.class_of g (code g.nodes i) (own_first g.nodes i) (own_second g.nodes i) ≡ suc (class_of g.nodes i)
  find_own i l =
      let (s, q) = class_says g.nodes g.count backward i l in
      let (r, e, h) =
      finds g.nodes g.count backward (code g.nodes i) (own_first g.nodes i) (own_second g.nodes i) (class_of g.nodes i) (omega arith) s in
      let (u, w) = find_says g.nodes g.count backward (code g.nodes i) (own_first g.nodes i) (own_second g.nodes i) r e in
      let p : class_of g.nodes i ≤ r = class_least g.nodes g.count backward i r l u in
      let z : r ≡ class_of g.nodes i = omega arith in
      e ∙ ap suc z

  found : (i c x y : ℕ) → i < g.count → code g.nodes i ≡ c → own_first g.nodes i ≡ x → own_second g.nodes i ≡ y → Checker.class_of g c x y ≡ suc (class_in i)
  found i c x y l p q r = rw (← p, ← q, ← r, class_at g.nodes g.count i l) (find_own i l)

  first_word : (i c x : ℕ) → code g.nodes i ≡ c → is_operand c 0 ≡ false → first g.nodes i ≡ x → own_first g.nodes i ≡ x
  unfolding own_first first_key
  first_word i c x p f q = key_word (is_operand (code g.nodes i) 0) (classes_to g.nodes i) (first g.nodes i) (ap (λ (c : ℕ). is_operand c 0) p ∙ f) ∙ q

  second_word : (i c x : ℕ) → code g.nodes i ≡ c → is_operand c 1 ≡ false → second g.nodes i ≡ x → own_second g.nodes i ≡ x
  unfolding own_second second_key
  second_word i c x p f q = key_word (is_operand (code g.nodes i) 1) (classes_to g.nodes i) (second g.nodes i) (ap (λ (c : ℕ). is_operand c 1) p ∙ f) ∙ q

  -- a source that is found is some node's
  pub found_leaf : (c x i : ℕ) → is_operand c 0 ≡ false → Checker.class_of g c x 0 ≡ suc i → (i < g.count) × (code g.nodes i ≡ c) × (first g.nodes i ≡ x)
  found_leaf c x i f e = let (s, l) = found_node c x 0 i e in (l, s.code, sym (first_word i c (first g.nodes i) s.code f refl) ∙ s.first)

  -- a class in the table of the nodes before i is the one in the whole table
  in_table : (i a : ℕ) → i < g.count → a < i → get_or (classes_to g.nodes i) a 0 ≡ class_in a
  in_table i a l h = class_at g.nodes i a h ∙ sym (class_at g.nodes g.count a (omega arith))

  first_class : (i c a : ℕ) → i < g.count → code g.nodes i ≡ c → is_operand c 0 ≡ true → first g.nodes i ≡ a → own_first g.nodes i ≡ class_in a
  unfolding own_first first_key
  first_class i c a l p f q =
      let t : is_operand (code g.nodes i) 0 ≡ true = ap (λ (c : ℕ). is_operand c 0) p ∙ f in
      key_class (is_operand (code g.nodes i) 0) (classes_to g.nodes i) (first g.nodes i) t ∙ (in_table i _ l (backward.first i l t) ∙ ap class_in q)

  second_class : (i c a : ℕ) → i < g.count → code g.nodes i ≡ c → is_operand c 1 ≡ true → second g.nodes i ≡ a → own_second g.nodes i ≡ class_in a
  unfolding own_second second_key
  second_class i c a l p f q =
      let t : is_operand (code g.nodes i) 1 ≡ true = ap (λ (c : ℕ). is_operand c 1) p ∙ f in
      key_class (is_operand (code g.nodes i) 1) (classes_to g.nodes i) (second g.nodes i) t ∙ (in_table i _ l (backward.second i l t) ∙ ap class_in q)

  pub find_leaf : (i c x : ℕ) → i < g.count → code g.nodes i ≡ c → is_operand c 0 ≡ false → is_operand c 1 ≡ false → first g.nodes i ≡ x
      → second g.nodes i ≡ 0
      → Checker.class_of g c x 0 ≡ suc (class_in i)
  find_leaf i c x l p f s q r = found i c x 0 l p (first_word i c x p f q) (second_word i c 0 p s r)

  pub find_unary : (i c x : ℕ) → i < g.count → code g.nodes i ≡ c → is_operand c 0 ≡ true → is_operand c 1 ≡ false → first g.nodes i ≡ x
      → second g.nodes i ≡ 0
      → Checker.class_of g c (class_in x) 0 ≡ suc (class_in i)
  find_unary i c x l p f s q r = found i c (class_in x) 0 l p (first_class i c x l p f q) (second_word i c 0 p s r)

  pub find_binary : (i c x y : ℕ) → i < g.count → code g.nodes i ≡ c → is_operand c 0 ≡ true → is_operand c 1 ≡ true → first g.nodes i ≡ x
      → second g.nodes i ≡ y
      → Checker.class_of g c (class_in x) (class_in y) ≡ suc (class_in i)
  find_binary i c x y l p f s q r = found i c (class_in x) (class_in y) l p (first_class i c x l p f q) (second_class i c y l p s r)
