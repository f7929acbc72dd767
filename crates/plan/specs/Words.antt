-- The words of good nodes as layer one's nodes: `operands_in_lem`, `computed_in_lem`, `invariant_in`. Assumes nothing.
use Rattle.std.specs.Prelude.{◌≡◌, refl, Bool, true, false, cond, not, ◌&&◌, List, [], ◌∷◌, ◌++◌, map, ℕ, zero, suc, ◌+◌, ◌≤◌, ◌<◌, length, get_or, set, eqb, ltb}
use Rattle.std.proofs.Common.{ap, ◌∙◌, arith}
use Rattle.std.proofs.lemmas.List.{length-map}
use borrow.Author.Tests.{ne_eqb}
use Rattle.block.specs.declared.Kind.TheVariants.{Binary, Unary}
use Rattle.block.specs.Block.{code, first, second}
use Rattle.block.specs.Kinds.{kind_of, operands_of}
use Rattle.expand.specs.Good.{good_operands}
use Rattle.expand.specs.Graph.{Graph}
use Rattle.expand.specs.GraphLaws.{GoodGraph}
use Rattle.plan.specs.declared.Sizes.{Sizes}
use Rattle.plan.specs.Lists.{count_up}
use Rattle.plan.specs.Nodes.{Node, input_node, network_node, constant_node, parameter_node, state_node, delay_node, binary_node, unary_node, operands, is_computed, node_at}
use Rattle.plan.specs.Flow.{node_in}
use Rattle.plan.specs.Hoist.{invariant_node, hoistable}
use Rattle.plan.specs.FlowLaws.{IsNode, node_is, flow_at}
use Rattle.plan.specs.ListLaws.{map_at, count_up_length}
use Rattle.plan.specs.Layout.{Lent, counts_in}
use Rattle.plan.specs.Regions.{flag}

-- ---- the first n nodes of a table

-- nodes 0 to n - 1 of these words; `flow_of` has them all
abbrev pub nodes_to : List ℕ → ℕ → List Node
nodes_to nodes n = map (node_in nodes) (count_up 0 n)

-- n nodes
pub nodes_length : (nodes : List ℕ) (n : ℕ) → length (nodes_to nodes n) ≡ n
nodes_length nodes n = length-map (count_up 0 n) (node_in nodes) ∙ count_up_length 0 n

-- node k of them
pub node_at_lem : (nodes : List ℕ) (n k : ℕ) → k < n → node_at (nodes_to nodes n) k ≡ node_in nodes k
node_at_lem nodes n k h = let z : 0 + k ≡ k = omega arith in rw z at (map_at (node_in nodes) 0 n k input_node h)

-- ---- a good node's words

-- how many operands it has
abbrev pub operand_count : List ℕ → ℕ → ℕ
operand_count nodes i = operands_of (kind_of (code nodes i))

abbrev pub operand_list : ℕ → ℕ → ℕ → List ℕ
operand_list zero x y = []
operand_list (suc zero) x y = x ∷ []
operand_list (suc (suc n)) x y = x ∷ y ∷ []

-- its operands
unfoldable pub operands_in : List ℕ → ℕ → List ℕ
operands_in nodes i = operand_list (operand_count nodes i) (first nodes i) (second nodes i)

-- is it computed
unfoldable pub computed_in : List ℕ → ℕ → Bool
computed_in nodes i = ltb 0 (operand_count nodes i)

-- the word of its invariance, from the words of the nodes before it
unfoldable pub invariant_word : ℕ → ℕ → ℕ → ℕ → ℕ
invariant_word count c x y = cond (eqb count 0) (cond (eqb c 1) 1 (cond (eqb c 2) 1 0)) (cond (eqb count 1) x (cond (eqb x 0) 0 y))

-- invariant, by its word, and computed
unfoldable pub hoistable_in : List ℕ → List ℕ → ℕ → Bool
hoistable_in nodes work i = cond (eqb (get_or work i 0) 1) (computed_in nodes i) false

-- 1 in each of these places of the region that begins at `base`
abbrev pub marked : ℕ → List ℕ → List ℕ → List ℕ
marked base [] work = work
marked base (n ∷ list) work = marked base list (set work (base + n) 1)

-- does the walk go down through node i: through every node, or not through what is hoistable
unfoldable pub descends_in : Bool → List ℕ → List ℕ → ℕ → Bool
descends_in through nodes work i = cond through true (not (hoistable_in nodes work i))

-- the same, by layer one's flags
abbrev pub goes_down : Bool → List Node → List Bool → ℕ → Bool
goes_down true nodes invariant = λ n. true
goes_down false nodes invariant = λ n. not (hoistable nodes invariant n)

-- the table after node i's turn in a sweep
unfoldable pub swept_node : ℕ → Bool → List ℕ → ℕ → List ℕ → List ℕ
swept_node base through nodes i work =
    cond (eqb (get_or work (base + i) 0) 0) work (cond (descends_in through nodes work i) (marked base (operands_in nodes i) work) work)

-- what its words say of the node they make: operands, whether it is computed, its invariance
facts : (x : Node) (c a d : ℕ) → IsNode x c a d
    → (operands x ≡ operand_list (operands_of (kind_of c)) a d) × (is_computed x ≡ ltb 0 (operands_of (kind_of c)))
unfolding kind_of
facts input_node c a d h = rw h.0 (refl, refl)
facts network_node c a d h = rw h.0 (refl, refl)
facts (constant_node w) c a d h = rw h.0 (refl, refl)
facts (parameter_node i) c a d h = rw h.0 (refl, refl)
facts (state_node i) c a d h = rw h.0 (refl, refl)
facts (delay_node i) c a d h = rw h.0 (refl, refl)
facts (binary_node k x y) c a d h = rw (h.0, h.1, h.2, h.3) (refl, refl)
facts (unary_node k x) c a d h = rw (h.0, h.1, h.3) (refl, refl)

invariant_as : (x : Node) (c a d u v : ℕ) (marks : List Bool) → IsNode x c a d
    → (1 ≤ operands_of (kind_of c) → u ≡ flag (get_or marks a false)) → (2 ≤ operands_of (kind_of c) → v ≡ flag (get_or marks d false))
    → invariant_word (operands_of (kind_of c)) c u v ≡ flag (invariant_node x marks)
unfolding invariant_word kind_of
invariant_as input_node c a d u v marks h f g = rw h.0
invariant_as network_node c a d u v marks h f g = rw h.0
invariant_as (constant_node w) c a d u v marks h f g = rw h.0
invariant_as (parameter_node i) c a d u v marks h f g = rw h.0
invariant_as (state_node i) c a d u v marks h f g = rw h.0
invariant_as (delay_node i) c a d u v marks h f g = rw h.0
invariant_as (binary_node k x y) c a d u v marks h f g =
    let q : kind_of c ≡ Binary = rw h.0 h.3 in
    let e : u ≡ flag (get_or marks x false) = rw h.1 at (f (rw q (omega arith))) in
    let r : v ≡ flag (get_or marks y false) = rw h.2 at (g (rw q (omega arith))) in
    rw (q, e, r) (go (get_or marks x false) (get_or marks y false))
  where
    go : (a b : Bool) → cond (eqb (flag a) 0) 0 (flag b) ≡ flag (a && b)
    go true b = refl
    go false b = refl
invariant_as (unary_node k x) c a d u v marks h f g =
    let q : kind_of c ≡ Unary = rw h.0 h.3 in
    let e : u ≡ flag (get_or marks x false) = rw h.1 at (f (rw q (omega arith))) in
    rw (q, e)

module _ (sizes : Sizes) (nodes : List ℕ) (words : ℕ) (lent : Lent sizes nodes words) (k : ℕ) (below : k < sizes.nodes) where
  -- the words of the nodes alone as a graph
  abbrev alone : Graph
  alone = record { count = sizes.nodes; nodes = nodes; output = k; state_updates = []; delay_updates = []; delay_lengths = [] }

  alone_good : GoodGraph (counts_in sizes) alone
  alone_good = record { long = lent.long; nodes = lent.good; output = below; state_updates = λ i. omega arith; delay_updates = λ i. omega arith; limit = lent.small }

  -- node k and its words
  pub node_words : IsNode (node_in nodes k) (code nodes k) (first nodes k) (second nodes k)
  node_words = rw (flow_at alone k below) at (node_is (counts_in sizes) alone alone_good k below)

  -- the operands of node k
  pub operands_in_lem : operands (node_in nodes k) ≡ operands_in nodes k
  unfolding operands_in
  operands_in_lem = (facts (node_in nodes k) (code nodes k) (first nodes k) (second nodes k) node_words).0

  -- is it computed
  pub computed_in_lem : is_computed (node_in nodes k) ≡ computed_in nodes k
  unfolding computed_in
  computed_in_lem = (facts (node_in nodes k) (code nodes k) (first nodes k) (second nodes k) node_words).1

  -- its operands stand before it
  pub operands_before : (1 ≤ operand_count nodes k → first nodes k < k) × (2 ≤ operand_count nodes k → second nodes k < k)
  operands_before = good_operands (counts_in sizes) k (code nodes k) (first nodes k) (second nodes k) (lent.good k below)

  -- its invariance, by the words of its operands'
  pub invariant_in : (u v : ℕ) (marks : List Bool) → (1 ≤ operand_count nodes k → u ≡ flag (get_or marks (first nodes k) false))
      → (2 ≤ operand_count nodes k → v ≡ flag (get_or marks (second nodes k) false))
      → invariant_word (operand_count nodes k) (code nodes k) u v ≡ flag (invariant_node (node_in nodes k) marks)
  invariant_in u v marks f g = invariant_as (node_in nodes k) (code nodes k) (first nodes k) (second nodes k) u v marks node_words f g

-- the ways out of `invariant_word`
module _ (count n c x y : ℕ) (e : count ≡ n) where
  pub word_constant : count ≡ 0 → c ≡ 1 → 1 ≡ invariant_word n c x y
  unfolding invariant_word
  word_constant z q = rw (← e, z, q)

  pub word_parameter : count ≡ 0 → c ≡ 2 → 1 ≡ invariant_word n c x y
  unfolding invariant_word
  word_parameter z q = rw (← e, z, q)

  pub word_other : count ≡ 0 → (c ≡ 1 → ⊥) → (c ≡ 2 → ⊥) → 0 ≡ invariant_word n c x y
  unfolding invariant_word
  word_other z p q = rw (← e, z, ne_eqb c 1 p, ne_eqb c 2 q)

  pub word_one : count ≡ 1 → x ≡ invariant_word n c x y
  unfolding invariant_word
  word_one z = rw (← e, z)

  pub word_varies : (count ≡ 0 → ⊥) → (count ≡ 1 → ⊥) → x ≡ 0 → 0 ≡ invariant_word n c x y
  unfolding invariant_word
  word_varies p q z = rw (← e, ne_eqb count 0 p, ne_eqb count 1 q, z)

  pub word_both : (count ≡ 0 → ⊥) → (count ≡ 1 → ⊥) → (x ≡ 0 → ⊥) → y ≡ invariant_word n c x y
  unfolding invariant_word
  word_both p q z = rw (← e, ne_eqb count 0 p, ne_eqb count 1 q, ne_eqb x 0 z)

-- ---- counting up, one more

-- Generic: the last number of those counted
pub count_up_snoc : (k n : ℕ) → count_up k (suc n) ≡ count_up k n ++ ((k + n) ∷ [])
count_up_snoc k zero = let z : k + 0 ≡ k = omega arith in rw z
count_up_snoc k (suc n) = let z : k + suc n ≡ suc k + n = omega arith in rw z (ap (λ (l : List ℕ). k ∷ l) (count_up_snoc (suc k) n))

-- Generic: f of a list with one more
pub map_snoc : {A B : Type 0} (f : A → B) (xs : List A) (x : A) → map f (xs ++ (x ∷ [])) ≡ map f xs ++ (f x ∷ [])
map_snoc f [] x = refl
map_snoc f (y ∷ xs) x = ap (λ l. f y ∷ l) (map_snoc f xs x)

-- one node more
pub nodes_next : (nodes : List ℕ) (n : ℕ) → nodes_to nodes (n + 1) ≡ nodes_to nodes n ++ (node_in nodes n ∷ [])
nodes_next nodes n =
    let z : n + 1 ≡ suc n = omega arith in
    let y : 0 + n ≡ n = omega arith in
    rw z (ap (map (node_in nodes)) (rw y at (count_up_snoc 0 n)) ∙ map_snoc (node_in nodes) (count_up 0 n) n)
