-- codegen.rs: `compile_with` up to the allocator in its own forms: `reachable` with a stack of pending nodes, `sample_schedule` with tables of ordinals. That
-- it gives the plan is in PlanSame. Definitions alone.
use Rattle.std.specs.Prelude.{Bool, true, false, not, cond, List, [], ◌∷◌, ◌++◌, map, ℕ, zero, suc, ◌+◌, ◌-◌, ◌*◌, max, length, get_or, set, replicate, eqb}
use Rattle.plan.specs.Lists.{filter, count_up, count}
use Rattle.plan.specs.Nodes.{Node, Flow, operands, node_at, roots}
use Rattle.plan.specs.Hoist.{invariants, number, hoistable, homes_of, control_computations}
use Rattle.plan.specs.Origins.{Origin, control_origin, sample_origins, is_load, origin_at}
use Rattle.plan.specs.Schedule.{Task, compute_task, store_task, control_tasks, Write, writes, tasks_of, sample_computations, Plan}

-- ---- `reachable`

-- the other way round: a stack's top is its last element in the Rust, its first here
abbrev pub backwards : List ℕ → List ℕ
backwards [] = []
backwards (x ∷ xs) = backwards xs ++ (x ∷ [])

-- the `while let` loop over the pending nodes, with as many turns as it may take
abbrev pub turns : List Node → (ℕ → Bool) → ℕ → List Bool → List ℕ → List Bool
turns nodes descend zero seen pending = seen
turns nodes descend (suc left) seen [] = seen
turns nodes descend (suc left) seen (n ∷ pending) =
    cond (get_or seen n false) (turns nodes descend left seen pending)
    (turns nodes descend left (set seen n true) (backwards (cond (descend n) (operands (node_at nodes n)) []) ++ pending))

-- each node is entered once and pushes two at most
abbrev pub reachable : List Node → List ℕ → (ℕ → Bool) → List Bool
reachable nodes from descend = turns nodes descend (2 * length nodes + length from) (replicate (length nodes) false) (backwards from)

-- ---- `sample_schedule`

-- `position[index] = Some(ordinal)`, for each computation in order
abbrev pub positions : ℕ → List ℕ → List ℕ → List ℕ
positions ordinal [] table = table
positions ordinal (n ∷ computations) table = positions (suc ordinal) computations (set table n (suc ordinal))

-- one word in each of these places
abbrev pub set_each : List ℕ → ℕ → List ℕ → List ℕ
set_each [] word table = table
set_each (n ∷ places) word table = set_each places word (set table n word)

-- `last_read[operand] = Some(ordinal)`, for each operand of each computation in order
abbrev pub last_reads : List Node → ℕ → List ℕ → List ℕ → List ℕ
last_reads nodes ordinal [] table = table
last_reads nodes ordinal (n ∷ computations) table =
    last_reads nodes (suc ordinal) computations (set_each (operands (node_at nodes n)) (suc ordinal) table)

-- `old_reads`: the latest of the last reads of the nodes that load this memory
abbrev pub old_reads : List Origin → ℕ → ℕ → List ℕ → List ℕ → ℕ
old_reads origins code index last [] = 0
old_reads origins code index last (n ∷ nodes) =
    max (cond (is_load code index (origin_at origins n)) (get_or last n 0) 0) (old_reads origins code index last nodes)

module _ (nodes : List Node) (origins : List Origin) (ws : List Write) (computations : List ℕ) where
  -- `after`: the ordinal of the computation after which the write comes, if there is one
  abbrev pub after : Write → ℕ
  after w =
      max (get_or (positions 0 computations (replicate (length nodes) 0)) w.value 0)
      (old_reads origins (w.code - 6) w.index (last_reads nodes 0 computations (replicate (length nodes) 0)) (count_up 0 (length nodes)))

  -- the computations from this ordinal on, each with the writes that come after it
  abbrev pub ordinal_tasks : ℕ → List ℕ → List Task
  ordinal_tasks ordinal [] = []
  ordinal_tasks ordinal (n ∷ rest) = compute_task n ∷ (tasks_of (filter (λ w. eqb (after w) (suc ordinal)) ws) ++ ordinal_tasks (suc ordinal) rest)

  -- writes that come after nothing first, the output last
  abbrev pub ordinal_schedule : ℕ → List Task
  ordinal_schedule output =
      tasks_of (filter (λ w. eqb (after w) 0) ws) ++ (ordinal_tasks 0 computations ++ (store_task 12 0 output ∷ []))

-- ---- `compile_with`, up to the allocator

-- from `sample_needed` on; `control_roots` are the nodes that get a control slot
abbrev pub plan_from : Flow → List Bool → Plan
plan_from flow needed =
    let nodes : List Node = flow.nodes in
    let invariant : List Bool = invariants nodes [] in
    let homes : List Bool = homes_of nodes invariant needed in
    let slots : List ℕ = number 0 homes in
    let controlNeeded : List Bool = reachable nodes (filter (λ n. get_or homes n false) (count_up 0 (length nodes))) (λ n. true) in
    let origins : List Origin = sample_origins slots nodes in
    record {
      slots = slots;
      fixed = count slots;
      control_origins = map control_origin nodes;
      control_tasks = control_tasks slots (control_computations nodes controlNeeded);
      sample_origins = origins;
      sample_tasks = ordinal_schedule nodes origins (writes flow) (sample_computations nodes needed origins) flow.output;
    }

-- all of it
unfoldable pub plan_rust : Flow → Plan
plan_rust flow =
    let nodes : List Node = flow.nodes in
    plan_from flow (reachable nodes (roots flow) (λ n. not (hoistable nodes (invariants nodes []) n)))
