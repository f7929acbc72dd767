-- The expansion is as long as the lengths say, and where each node's expansion stands in it: node i's from `offset i` on, its last node at `map_node i`.
use Rattle.std.specs.Prelude.{◌≡◌, refl, ◌⊎◌, List, ◌++◌, ℕ, zero, suc, ◌+◌, ◌*◌, ◌≤◌, ◌<◌, length, get_or}
use Rattle.std.proofs.Common.{ap, ◌∙◌, inl, inr, eq-or-lt_of_le, le_of_suc-le-suc, not-suc-le-zero, arith, length-append, get_or-append-add}
use Rattle.std.proofs.Math.ListN.{get_or-append}
use Rattle.tables.specs.Loops.{sum, sum_le}
use Rattle.block.specs.declared.Kind.{Kind}
use Rattle.block.specs.declared.Kind.TheVariants.{Source, Constant, Parameter, State, Delay, Binary, Divide, Unary, Recip, Tanh, Sigmoid, Unknown}
use Rattle.block.specs.Block.{Block, node_count, code, first, second}
use Rattle.block.specs.Kinds.{kind_of, length_of, recip_length, tanh_length, node_length, offset, tanh_steps}
use Rattle.block.specs.Validation.{expanded_length}
use Rattle.expand.specs.Nodes.{Node, words_of}
use Rattle.expand.specs.Macros.{newton, recip, tanh, sigmoid, divide}
use Rattle.expand.specs.Words.{no_node, words_length, words_at}
use Rattle.expand.specs.Expansion.{expand_as, map_node, expand_node, expand_to, expansion, map_update}

-- ---- each macro is as long as its length
newton_length : (steps k x e two : ℕ) → length (newton steps k x e two) ≡ steps * 3
newton_length zero k x e two = refl
newton_length (suc steps) k x e two = let h = newton_length steps (k + 3) x (k + 2) two in omega arith

pub recip_length_lem : (steps k x : ℕ) → length (recip steps k x) ≡ recip_length steps
unfolding recip
recip_length_lem steps k x = let h = newton_length steps (k + 3) x (k + 2) (k + 1) in omega arith

pub divide_length : (steps k x y : ℕ) → length (divide steps k x y) ≡ recip_length steps + 1
unfolding divide
divide_length steps k x y = simp (length-append, recip_length_lem steps k y)

pub tanh_length_lem : (steps k x : ℕ) → length (tanh steps k x) ≡ tanh_length steps
unfolding tanh
tanh_length_lem steps k x = simp (length-append, recip_length_lem steps (k + 26) (k + 25)) (omega arith)

pub sigmoid_length : (steps k x : ℕ) → length (sigmoid steps k x) ≡ 2 + tanh_length steps + 2
unfolding sigmoid
sigmoid_length steps k x = simp (length-append, tanh_length_lem steps (k + 2) (k + 1)) (omega arith)

as_length : (steps : ℕ) (kind : Kind) (map : ℕ → ℕ) (k c x y : ℕ) → length (expand_as steps kind map k c x y) ≡ length_of steps kind
as_length steps Source map k c x y = refl
as_length steps Constant map k c x y = refl
as_length steps Parameter map k c x y = refl
as_length steps State map k c x y = refl
as_length steps Delay map k c x y = refl
as_length steps Binary map k c x y = refl
as_length steps Divide map k c x y = divide_length _ k (map x) (map y)
as_length steps Unary map k c x y = refl
as_length steps Recip map k c x y = recip_length_lem _ k (map x)
as_length steps Tanh map k c x y = tanh_length_lem steps k (map x)
as_length steps Sigmoid map k c x y = sigmoid_length steps k (map x)
as_length steps Unknown map k c x y = refl

pub node_length_lem : (steps : ℕ) (nodes : List ℕ) (i : ℕ) → length (expand_node steps nodes i) ≡ node_length steps nodes i
unfolding expand_node node_length
node_length_lem steps nodes i =
    as_length steps (kind_of (code nodes i)) (map_node steps nodes) (offset steps nodes i) (code nodes i) (first nodes i) (second nodes i)

-- ---- THE LENGTH: the expansion of the nodes below i is as long as the sum of their lengths
pub to_length : (steps : ℕ) (nodes : List ℕ) (i : ℕ) → length (expand_to steps nodes i) ≡ offset steps nodes i
unfolding expand_to sum
to_length steps nodes zero = refl
to_length steps nodes (suc i) = simp (length-append, to_length steps nodes i, node_length_lem steps nodes i)

pub expansion_length : (b : Block) → length (expansion b) ≡ expanded_length b
expansion_length b = to_length _ b.nodes (node_count b)

-- "a lent table of 3N words, N the expanded length"
pub expansion_words_length : (b : Block) → length (words_of (expansion b)) ≡ 3 * expanded_length b
expansion_words_length b = words_length (expansion b) ∙ ap (◌*◌ 3) (expansion_length b)

-- ---- a node makes at least one node, and a macro not many more
length_positive : (steps : ℕ) (kind : Kind) → 1 ≤ length_of steps kind
length_positive steps Source = omega arith
length_positive steps Constant = omega arith
length_positive steps Parameter = omega arith
length_positive steps State = omega arith
length_positive steps Delay = omega arith
length_positive steps Binary = omega arith
length_positive steps Divide = omega arith
length_positive steps Unary = omega arith
length_positive steps Recip = omega arith
length_positive steps Tanh = omega arith
length_positive steps Sigmoid = omega arith
length_positive steps Unknown = omega arith

pub node_positive : (steps : ℕ) (nodes : List ℕ) (i : ℕ) → 1 ≤ node_length steps nodes i
unfolding node_length
node_positive steps nodes i = length_positive steps (kind_of (code nodes i))

-- as the code finds it: by the node's kind
pub length_is : (steps : ℕ) (nodes : List ℕ) (i : ℕ) {kind : Kind} {l : ℕ} → l ≡ length_of steps kind → kind ≡ kind_of (code nodes i) → l ≡ node_length steps nodes i
unfolding node_length
length_is steps nodes i e f = e ∙ ap (length_of steps) f

-- ---- where node i's expansion starts
pub offset_start : (steps : ℕ) (nodes : List ℕ) → offset steps nodes 0 ≡ 0
unfolding sum
offset_start steps nodes = refl

pub offset_next : (steps : ℕ) (nodes : List ℕ) (i : ℕ) → offset steps nodes (suc i) ≡ offset steps nodes i + node_length steps nodes i
unfolding sum
offset_next steps nodes i = refl

pub offset_le : (steps : ℕ) (nodes : List ℕ) (i n : ℕ) → i ≤ n → offset steps nodes i ≤ offset steps nodes n
offset_le steps nodes i n h = sum_le (node_length steps nodes) i n h

-- no sooner than the node itself stands
pub offset_ge : (steps : ℕ) (nodes : List ℕ) (i : ℕ) → i ≤ offset steps nodes i
offset_ge steps nodes zero = omega arith
offset_ge steps nodes (suc i) = omega (arith, offset_ge steps nodes i, offset_next steps nodes i, node_positive steps nodes i)

-- a node is mapped below where each later node starts
pub map_below : (steps : ℕ) (nodes : List ℕ) (j i : ℕ) → j < i → map_node steps nodes j < offset steps nodes i
map_below steps nodes j i h = omega (arith, offset_le steps nodes (suc j) i h, offset_next steps nodes j, node_positive steps nodes j)

pub map_update_le : (steps : ℕ) (nodes : List ℕ) (n update : ℕ) → update ≤ n → map_update steps nodes update ≤ offset steps nodes n
map_update_le steps nodes n zero h = omega arith
map_update_le steps nodes n (suc j) h = map_below steps nodes j n h

-- ---- WHERE EACH NODE STANDS: the j-th node of node i's expansion is the node at offset i + j
pub expand_at : (steps : ℕ) (nodes : List ℕ) (n i j : ℕ) (z : Node) → i < n → j < node_length steps nodes i
    → get_or (expand_to steps nodes n) (offset steps nodes i + j) z ≡ get_or (expand_node steps nodes i) j z
unfolding expand_to
expand_at steps nodes zero i j z h q = absurd (not-suc-le-zero h)
expand_at steps nodes (suc n) i j z h q = go (eq-or-lt_of_le (le_of_suc-le-suc h)) (expand_at steps nodes n i j z)
  where
    go : (i ≡ n) ⊎ (i < n)
        → (i < n → j < node_length steps nodes i → get_or (expand_to steps nodes n) (offset steps nodes i + j) z ≡ get_or (expand_node steps nodes i) j z)
        → get_or (expand_to steps nodes n ++ expand_node steps nodes n) (offset steps nodes i + j) z ≡ get_or (expand_node steps nodes i) j z
    go (inl p) ih = rw (p, ← to_length steps nodes n) (get_or-append-add (expand_to steps nodes n) (expand_node steps nodes n) j z)
    go (inr p) ih =
        get_or-append (expand_to steps nodes n) (expand_node steps nodes n) z (offset steps nodes i + j)
        (omega (arith, to_length steps nodes n, offset_le steps nodes (suc i) n p, offset_next steps nodes i)) ∙ ih p q

-- the same in the words of the table
pub words_expand_at : (b : Block) (i j : ℕ) → i < node_count b → j < node_length tanh_steps b.nodes i
    → (code (words_of (expansion b)) (offset tanh_steps b.nodes i + j) ≡ (get_or (expand_node tanh_steps b.nodes i) j no_node).code)
    × (first (words_of (expansion b)) (offset tanh_steps b.nodes i + j) ≡ (get_or (expand_node tanh_steps b.nodes i) j no_node).first)
    × (second (words_of (expansion b)) (offset tanh_steps b.nodes i + j) ≡ (get_or (expand_node tanh_steps b.nodes i) j no_node).second)
words_expand_at b i j h q =
    let w = words_at (expansion b) (offset tanh_steps b.nodes i + j) in
    let e = expand_at tanh_steps b.nodes (node_count b) i j no_node h q in
    (w.0 ∙ ap (λ (n : Node). n.code) e, w.1 ∙ ap (λ (n : Node). n.first) e, w.2 ∙ ap (λ (n : Node). n.second) e)
