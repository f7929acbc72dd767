-- The tasks of each phase in order (document 01, module 3; codegen.rs, `control_ops` and `sample_schedule`), and the whole plan. Definitions alone.
use Rattle.std.specs.Prelude.{Bool, true, false, not, ◌&&◌, ◌||◌, List, [], ◌∷◌, ◌++◌, map, ℕ, zero, suc, ◌-◌, length, get_or, eqb}
use Rattle.plan.specs.Lists.{filter, any_of, count_up, count}
use Rattle.plan.specs.Nodes.{Node, Flow, operands, node_at}
use Rattle.plan.specs.Hoist.{invariants, sweep, number, needed_by, homes_of, control_computations}
use Rattle.plan.specs.Origins.{Origin, control_origin, sample_origins, has_origin, is_load, origin_at, canonical}

-- codegen.rs: `Op`
pub data Task : Type 0 where
  -- compute a node
  compute_task : ℕ → Task
  -- keep a hoisted value in its control slot: slot, node
  keep_task : ℕ → ℕ → Task
  -- store: code 10 state, 11 delay, 12 output; index; the node of the value
  store_task : ℕ → ℕ → ℕ → Task

-- codegen.rs: `Op::reads`
unfoldable pub task_reads : List Node → List Origin → Task → List ℕ
task_reads nodes origins (compute_task n) = map (canonical origins) (operands (node_at nodes n))
task_reads nodes origins (keep_task slot value) = canonical origins value ∷ []
task_reads nodes origins (store_task code index value) = canonical origins value ∷ []

-- ---- the control phase

-- a computation, then its store if it has a control slot
abbrev pub control_task : ℕ → ℕ → List Task
control_task n zero = compute_task n ∷ []
control_task n (suc slot) = compute_task n ∷ keep_task slot n ∷ []

-- codegen.rs: `control_ops`, of these computations
abbrev pub control_tasks : List ℕ → List ℕ → List Task
control_tasks slots [] = []
control_tasks slots (n ∷ computations) = control_task n (get_or slots n 0) ++ control_tasks slots computations

-- ---- the sample phase

-- a write of a state (code 10) or of a delay (11), with the node of its new value
pub record Write : Type 0 where
  pub code : ℕ
  pub index : ℕ
  pub value : ℕ

-- the writes of a table of updates, of the memories from this index on
abbrev pub writes_from : ℕ → ℕ → List ℕ → List Write
writes_from code index [] = []
writes_from code index (zero ∷ updates) = writes_from code (suc index) updates
writes_from code index (suc n ∷ updates) = record { code = code; index = index; value = n } ∷ writes_from code (suc index) updates

-- "states before delays"
unfoldable pub writes : Flow → List Write
writes flow = writes_from 10 0 flow.states ++ writes_from 11 0 flow.delays

-- the writes as tasks
abbrev pub tasks_of : List Write → List Task
tasks_of [] = []
tasks_of (w ∷ ws) = store_task w.code w.index w.value ∷ tasks_of ws

-- "each write comes right after the later of its new value's computation and the last one reading its old value": the write waits for computation n if
-- n is its new value, or reads the old one, through any repeated node of that memory
unfoldable pub waits : List Node → List Origin → Write → ℕ → Bool
waits nodes origins w n =
    eqb n w.value || any_of (λ operand. is_load (w.code - 6) w.index (origin_at origins operand)) (operands (node_at nodes n))

-- codegen.rs: `computed`: what the sample phase reaches and must compute
unfoldable pub sample_computations : List Node → List Bool → List Origin → List ℕ
sample_computations nodes needed origins =
    filter (λ n. get_or needed n false && not (has_origin (origin_at origins n))) (count_up 0 (length nodes))

-- "Computations run in node order", each followed by the writes for which it is the last that they wait for
unfoldable pub schedule_from : List Node → List Origin → List Write → List ℕ → List Task
schedule_from nodes origins ws [] = []
schedule_from nodes origins ws (n ∷ rest) =
    compute_task n
    ∷ (tasks_of (filter (λ w. waits nodes origins w n && not (any_of (waits nodes origins w) rest)) ws) ++ schedule_from nodes origins ws rest)

-- codegen.rs: `sample_schedule`: writes that wait for nothing "first of all", "output last". The Rust's own form, with ordinals, is in Ordinals
unfoldable pub schedule : List Node → List Origin → List Write → List ℕ → ℕ → List Task
schedule nodes origins ws computations output =
    tasks_of (filter (λ w. not (any_of (waits nodes origins w) computations)) ws)
    ++ (schedule_from nodes origins ws computations ++ (store_task 12 0 output ∷ []))

-- ---- the plan

-- the control slots of the nodes and their number; of each phase the origins of the nodes, and the tasks
pub record Plan : Type 0 where
  pub slots : List ℕ
  pub fixed : ℕ
  pub control_origins : List Origin
  pub control_tasks : List Task
  pub sample_origins : List Origin
  pub sample_tasks : List Task

-- codegen.rs: `compile_with`, up to the allocator
unfoldable pub plan_of : Flow → Plan
plan_of flow =
    let nodes : List Node = flow.nodes in
    let invariant : List Bool = invariants nodes [] in
    let needed : List Bool = needed_by flow invariant in
    let homes : List Bool = homes_of nodes invariant needed in
    let slots : List ℕ = number 0 homes in
    let controlNeeded : List Bool = sweep nodes (λ n. true) (length nodes) homes in
    let origins : List Origin = sample_origins slots nodes in
    record {
      slots = slots;
      fixed = count slots;
      control_origins = map control_origin nodes;
      control_tasks = control_tasks slots (control_computations nodes controlNeeded);
      sample_origins = origins;
      sample_tasks = schedule nodes origins (writes flow) (sample_computations nodes needed origins) flow.output;
    }
