-- "network node, flag clear" is 4: with the flag clear no expanded node reads the network, since no macro writes such a node.
use Rattle.std.specs.Prelude.{◌≡◌, refl, Bool, false, ◌||◌, List, [], ◌∷◌, ◌++◌, ℕ, zero, suc, ◌+◌, ◌<◌, get_or, eqb}
use Rattle.std.proofs.Common.{ap, ◌∙◌, arith, ne_eqb}
use Rattle.std.proofs.lemmas.Bool.{eqb-false}
use Rattle.tables.specs.Tests.{neither}
use Rattle.block.specs.declared.Kind.{Kind}
use Rattle.block.specs.declared.Kind.TheVariants.{Source, Constant, Parameter, State, Delay, Binary, Divide, Unary, Recip, Tanh, Sigmoid, Unknown}
use Rattle.block.specs.Block.{Block, node_count, code}
use Rattle.block.specs.Kinds.{kind_of, recip_steps, offset, tanh_steps}
use Rattle.block.specs.Valid.{Valid}
use Rattle.expand.specs.Nodes.{Node, words_of}
use Rattle.expand.specs.Words.{no_node, words_at}
use Rattle.expand.specs.Macros.{newton, recip, tanh, sigmoid, divide}
use Rattle.expand.specs.Expansion.{expand_as, map_node, expand_node, expand_to, expansion}

-- some node of the list reads the network
abbrev reads : List Node → Bool
reads [] = false
reads (x ∷ xs) = eqb x.code 17 || reads xs

reads_append : (xs ys : List Node) → reads xs ≡ false → reads ys ≡ false → reads (xs ++ ys) ≡ false
reads_append [] ys p q = q
reads_append (x ∷ xs) ys p q = let e = neither (eqb x.code 17) (reads xs) p in rw e.0 (reads_append xs ys e.1 q)

reads_at : (ns : List Node) (i : ℕ) → reads ns ≡ false → eqb (get_or ns i no_node).code 17 ≡ false
reads_at [] i e = refl
reads_at (x ∷ xs) zero e = (neither (eqb x.code 17) (reads xs) e).0
reads_at (x ∷ xs) (suc i) e = reads_at xs i (neither (eqb x.code 17) (reads xs) e).1

-- ---- no macro does
newton_reads : (steps k x e two : ℕ) → reads (newton steps k x e two) ≡ false
newton_reads zero k x e two = refl
newton_reads (suc steps) k x e two = newton_reads steps (k + 3) x (k + 2) two

recip_reads : (steps k x : ℕ) → reads (recip steps k x) ≡ false
unfolding recip
recip_reads steps k x = newton_reads steps (k + 3) x (k + 2) (k + 1)

divide_reads : (steps k x y : ℕ) → reads (divide steps k x y) ≡ false
unfolding divide
divide_reads steps k x y = reads_append (recip steps k y) _ (recip_reads steps k y) refl

tanh_reads : (steps k x : ℕ) → reads (tanh steps k x) ≡ false
unfolding tanh
tanh_reads steps k x = reads_append (recip steps (k + 26) (k + 25)) _ (recip_reads steps (k + 26) (k + 25)) refl

sigmoid_reads : (steps k x : ℕ) → reads (sigmoid steps k x) ≡ false
unfolding sigmoid
sigmoid_reads steps k x = reads_append (tanh steps (k + 2) (k + 1)) _ (tanh_reads steps (k + 2) (k + 1)) refl

-- ---- a node that does not, and all nodes below i
as_reads : (steps : ℕ) (kind : Kind) (map : ℕ → ℕ) (k c x y : ℕ) → eqb c 17 ≡ false → reads (expand_as steps kind map k c x y) ≡ false
as_reads steps Source map k c x y e = rw e
as_reads steps Constant map k c x y e = rw e
as_reads steps Parameter map k c x y e = rw e
as_reads steps State map k c x y e = rw e
as_reads steps Delay map k c x y e = rw e
as_reads steps Binary map k c x y e = rw e
as_reads steps Divide map k c x y e = divide_reads recip_steps k (map x) (map y)
as_reads steps Unary map k c x y e = rw e
as_reads steps Recip map k c x y e = recip_reads recip_steps k (map x)
as_reads steps Tanh map k c x y e = tanh_reads steps k (map x)
as_reads steps Sigmoid map k c x y e = sigmoid_reads steps k (map x)
as_reads steps Unknown map k c x y e = rw e

to_reads : (steps : ℕ) (nodes : List ℕ) (i : ℕ) → ((j : ℕ) → j < i → eqb (code nodes j) 17 ≡ false) → reads (expand_to steps nodes i) ≡ false
unfolding expand_to expand_node
to_reads steps nodes zero h = refl
to_reads steps nodes (suc i) h =
    reads_append (expand_to steps nodes i) _ (to_reads steps nodes i (λ j q. h j (omega arith)))
    (as_reads steps (kind_of (code nodes i)) (map_node steps nodes) (offset steps nodes i) _ _ _ (h i (omega arith)))

-- WITH THE FLAG CLEAR no expanded node has code 17
pub no_network_lem : (b : Block) → Valid b → b.header.network ≡ 0 → (k : ℕ) → code (words_of (expansion b)) k ≡ 17 → ⊥
no_network_lem b valid clear k =
    let quiet = to_reads tanh_steps b.nodes (node_count b) (λ i h. ne_eqb _ _ (valid.no_network clear i h)) in
    eqb-false _ _ (ap (λ (c : ℕ). eqb c 17) (words_at (expansion b) k).0 ∙ reads_at (expansion b) k quiet)
