-- What the sample phase computes, by words: `sample_in_lem`. Laws that the functions of src/schedule cite. Assumes nothing.
use Rattle.std.specs.Prelude.{◌≡◌, refl, Bool, true, false, cond, not, ◌&&◌, List, ℕ, zero, suc, ◌+◌, ◌*◌, ◌<◌, get_or, eqb, ltb}
use Rattle.std.proofs.Common.{arith, ne_eqb}
use Rattle.plan.specs.declared.Sizes.{Sizes}
use Rattle.plan.specs.Nodes.{Node, input_node, network_node, constant_node, parameter_node, state_node, delay_node, binary_node, unary_node, is_computed}
use Rattle.plan.specs.Flow.{node_in}
use Rattle.plan.specs.Origins.{has_origin, node_origin, sample_origin}
use Rattle.plan.specs.Layout.{Lent}
use Rattle.plan.specs.Regions.{flag}
use Rattle.plan.specs.Words.{operand_count, computed_in, computed_in_lem}
use Rattle.plan.specs.HoistLaws.{flag_test}

-- does the sample phase compute node i
unfoldable pub sample_in : ℕ → List ℕ → List ℕ → ℕ → Bool
sample_in n nodes work i = cond (eqb (get_or work (n + i) 0) 1) (cond (eqb (get_or work (2 * n + i) 0) 0) (computed_in nodes i) false) false

-- a node without a control slot has no origin exactly where it is computed
computed_none : (x : Node) → is_computed x ≡ not (has_origin (node_origin x))
unfolding node_origin
computed_none input_node = refl
computed_none network_node = refl
computed_none (constant_node w) = refl
computed_none (parameter_node i) = refl
computed_none (state_node i) = refl
computed_none (delay_node i) = refl
computed_none (binary_node k a d) = refl
computed_none (unary_node k a) = refl

-- the test of `sample_computations`
pub sample_in_lem : (sizes : Sizes) (nodes : List ℕ) (words : ℕ) → Lent sizes nodes words → (i : ℕ) → i < sizes.nodes → (needed : Bool) (slot : ℕ) (work : List ℕ)
    → get_or work (sizes.nodes + i) 0 ≡ flag needed → get_or work (2 * sizes.nodes + i) 0 ≡ slot
    → sample_in sizes.nodes nodes work i ≡ (needed && not (has_origin (sample_origin slot (node_in nodes i))))
unfolding sample_in sample_origin
sample_in_lem sizes nodes words lent i below needed zero work m s =
    rw (m, flag_test needed, s, ← computed_in_lem sizes nodes words lent i below, computed_none (node_in nodes i)) (go needed)
  where
    go : (b : Bool) → cond b (not (has_origin (node_origin (node_in nodes i)))) false ≡ (b && not (has_origin (node_origin (node_in nodes i))))
    go true = refl
    go false = refl
sample_in_lem sizes nodes words lent i below needed (suc slot) work m s =
    rw (m, flag_test needed, s, ne_eqb (suc slot) 0 (λ (e : suc slot ≡ 0). omega arith)) (go needed)
  where
    go : (b : Bool) → cond b false false ≡ (b && false)
    go true = refl
    go false = refl

-- the ways out
pub sample_yes : (n : ℕ) (nodes work : List ℕ) (i c : ℕ) → get_or work (n + i) 0 ≡ 1 → get_or work (2 * n + i) 0 ≡ 0 → c ≡ operand_count nodes i
    → ltb 0 c ≡ sample_in n nodes work i
unfolding sample_in computed_in
sample_yes n nodes work i c h z e = rw (h, z, e)

pub sample_slot : (n : ℕ) (nodes work : List ℕ) (i : ℕ) → get_or work (n + i) 0 ≡ 1 → (get_or work (2 * n + i) 0 ≡ 0 → ⊥) → false ≡ sample_in n nodes work i
unfolding sample_in
sample_slot n nodes work i h z = rw (h, ne_eqb (get_or work (2 * n + i) 0) 0 z)

pub sample_no : (n : ℕ) (nodes work : List ℕ) (i : ℕ) → (get_or work (n + i) 0 ≡ 1 → ⊥) → false ≡ sample_in n nodes work i
unfolding sample_in
sample_no n nodes work i h = rw (ne_eqb (get_or work (n + i) 0) 1 h)
