-- What is hoisted into the control phase, and what each phase reaches (document 01, module 3; codegen.rs, the first half of `compile_with`).
-- Tables of flags have one for each node. Definitions alone.
use Rattle.std.specs.Prelude.{Bool, true, false, not, cond, ◌&&◌, List, [], ◌∷◌, ◌++◌, map, ℕ, zero, suc, length, get_or, set, replicate}
use Rattle.plan.specs.Lists.{filter, count_up}
use Rattle.plan.specs.Nodes.{Node, Flow, operands, is_computed, node_at, roots, input_node, network_node, constant_node, parameter_node, state_node, delay_node, binary_node, unary_node}

-- ---- "from constants and parameters alone"

-- is the node, given the flags of those before it
abbrev pub invariant_node : Node → List Bool → Bool
invariant_node input_node flags = false
invariant_node network_node flags = false
invariant_node (constant_node bits) flags = true
invariant_node (parameter_node index) flags = true
invariant_node (state_node index) flags = false
invariant_node (delay_node index) flags = false
invariant_node (binary_node code lhs rhs) flags = get_or flags lhs false && get_or flags rhs false
invariant_node (unary_node code input) flags = get_or flags input false

-- codegen.rs: `invariant`: the flags of the nodes so far, and then of these
unfoldable pub invariants : List Node → List Bool → List Bool
invariants [] flags = flags
invariants (node ∷ nodes) flags = invariants nodes (flags ++ (invariant_node node flags ∷ []))

-- codegen.rs: `hoisted`: invariant, and computed
unfoldable pub hoistable : List Node → List Bool → ℕ → Bool
hoistable nodes invariant n = get_or invariant n false && is_computed (node_at nodes n)

-- ---- what a phase reaches

-- the flags with each node of a list marked
abbrev pub mark_all : List ℕ → List Bool → List Bool
mark_all [] marks = marks
mark_all (n ∷ list) marks = mark_all list (set marks n true)

-- codegen.rs: `reachable`. Operands stand before their node, so one sweep from the last node to the first reaches all: a marked node through which the
-- walk goes down marks its operands. The Rust's own form, with a stack, is in Worklist
unfoldable pub sweep : List Node → (ℕ → Bool) → ℕ → List Bool → List Bool
sweep nodes down zero marks = marks
sweep nodes down (suc k) marks = sweep nodes down k (mark_all (cond (get_or marks k false && down k) (operands (node_at nodes k)) []) marks)

-- codegen.rs: `sample_needed`: from the roots, and not through what is hoistable
unfoldable pub needed_by : Flow → List Bool → List Bool
needed_by flow invariant =
    let nodes : List Node = flow.nodes in
    sweep nodes (λ n. not (hoistable nodes invariant n)) (length nodes) (mark_all (roots flow) (replicate (length nodes) false))

-- ---- "that the sample phase reaches gets a control slot, in node order"

-- the nodes that get one
unfoldable pub homes_of : List Node → List Bool → List Bool → List Bool
homes_of nodes invariant needed = map (λ n. get_or needed n false && hoistable nodes invariant n) (count_up 0 (length nodes))

-- codegen.rs: `control_slot`: the slot of each flagged node, numbered from k on
abbrev pub number : ℕ → List Bool → List ℕ
number k [] = []
number k (true ∷ flags) = suc k ∷ number (suc k) flags
number k (false ∷ flags) = 0 ∷ number k flags

-- the computations of the control phase, in node order: what it reaches and must compute
unfoldable pub control_computations : List Node → List Bool → List ℕ
control_computations nodes needed = filter (λ n. get_or needed n false && is_computed (node_at nodes n)) (count_up 0 (length nodes))
