-- The allocator (document 01, module 4; codegen.rs, `impl Allocator`). `rest` are the reads of the tasks to come, task by task: the Rust's `reads` and
-- `next`. `locked` are the registers of the operands that are fetched. Definitions alone.
use Rattle.std.specs.Prelude.{Bool, true, false, not, cond, ◌&&◌, ◌||◌, List, [], ◌∷◌, ◌++◌, map, ℕ, zero, suc, pred, ◌+◌, ◌-◌, length, get_or, eqb}
use Rattle.plan.specs.Lists.{member, filter, first_of, best, is_none}
use Rattle.plan.specs.Nodes.{Node, node_at, input_node, network_node, constant_node, parameter_node, state_node, delay_node, binary_node, unary_node}
use Rattle.plan.specs.Origins.{Origin, origin_at, home_of, no_origin, immediate, loaded}
use Rattle.plan.specs.Schedule.{Task, task_reads, compute_task, keep_task, store_task}
use Rattle.allocate.specs.Actions.{Operation, load_immediate, binary, unary, store_control, load_action, store_action}
use Rattle.allocate.specs.State.{Allocated, allocated, all_locked, and_then, Setting, State, Taken, TakenAll, register_of, owner_of, slot_of, is_fresh, reloadable, emit, emit_operation, from_slot, spill_out, set_slot, stale, place, vacate, lend, release}

-- ---- reads to come

-- the next read of node n, as so many tasks from here; where there is none, their number
abbrev pub distance : List (List ℕ) → ℕ → ℕ
distance [] n = 0
distance (reads ∷ rest) n = cond (member n reads) 0 (suc (distance rest n))

-- codegen.rs: `next_read` is some
abbrev pub read_later : List (List ℕ) → ℕ → Bool
read_later [] n = false
read_later (reads ∷ rest) n = member n reads || read_later rest n

-- ---- a register for a value

-- a value is saved before it is dropped, unless it can be loaded again
abbrev pub spill_if : Bool → Setting → ℕ → ℕ → State → State
spill_if true setting n register s = s
spill_if false setting n register s = spill_out setting n register s

-- node n, which the register holds, is thrown out
unfoldable pub evict : Setting → ℕ → ℕ → State → State
evict setting n register s = vacate n register (spill_if (reloadable s n) setting n register s)

-- "one needing no spill, then the furthest next read, then the highest register" (codegen.rs: the key of `max_by_key`). That pairs are ordered so is in RustKeys
unfoldable pub evict_key : List (List ℕ) → State → ℕ → ℕ
evict_key rest s register =
    let victim : ℕ = pred (owner_of s register) in
    cond (reloadable s victim) (suc (length rest)) 0 + distance rest victim

-- the register to take for node n, if any is unlocked
abbrev pub take_best : Setting → ℕ → State → ℕ → Allocated Taken
take_best setting n s zero = all_locked
take_best setting n s (suc register) =
    allocated (record { register = register; state = place n register (evict setting (pred (owner_of s register)) register s) })

-- the free register, if there is one; "else, among unlocked ones", the best
abbrev pub take_free : Setting → List (List ℕ) → ℕ → List ℕ → State → ℕ → Allocated Taken
take_free setting rest n locked s zero =
    take_best setting n s (best (evict_key rest s) (filter (λ register. not (member register locked)) setting.registers))
take_free setting rest n locked s (suc register) = allocated (record { register = register; state = place n register s })

-- codegen.rs: `take`: "Lowest free register first"
unfoldable pub take_register : Setting → List (List ℕ) → ℕ → List ℕ → State → Allocated Taken
take_register setting rest n locked s =
    take_free setting rest n locked s (first_of (λ register. is_none (owner_of s register)) setting.registers)

-- ---- an operand in a register

-- it is loaded from where it comes from
unfoldable pub bring_from : Origin → ℕ → State → State
bring_from no_origin register s = s
bring_from (immediate bits) register s = emit_operation (load_immediate bits register) s
bring_from (loaded code index) register s = emit (load_action code index register) s

-- .. where it is fresh, else from its slot
abbrev pub bring_if : Bool → Setting → ℕ → ℕ → State → State
bring_if true setting n register s = bring_from (origin_at setting.origins n) register s
bring_if false setting n register s = emit (from_slot setting (pred (slot_of s n)) register) s

-- the second half of codegen.rs: `fetch`
unfoldable pub bring : Setting → ℕ → ℕ → State → State
bring setting n register s = bring_if (is_fresh s n) setting n register s

-- node n is in a register already, or one is taken and filled
abbrev pub fetch_held : Setting → List (List ℕ) → ℕ → List ℕ → State → ℕ → Allocated Taken
fetch_held setting rest n locked s (suc register) = allocated (record { register = register; state = s })
fetch_held setting rest n locked s zero =
    and_then (take_register setting rest n locked s)
    (λ t. allocated (record { register = t.register; state = bring setting n t.register t.state }))

-- codegen.rs: `fetch`
unfoldable pub fetch : Setting → List (List ℕ) → ℕ → List ℕ → State → Allocated Taken
fetch setting rest n locked s = fetch_held setting rest n locked s (register_of s n)

-- a task's reads are fetched in order; each is locked once it is fetched, not before
unfoldable pub fetch_all : Setting → List (List ℕ) → List ℕ → List ℕ → State → Allocated TakenAll
fetch_all setting rest [] locked s = allocated (record { registers = locked; state = s })
fetch_all setting rest (n ∷ reads) locked s =
    and_then (fetch setting rest n locked s) (λ t. fetch_all setting rest reads (locked ++ (t.register ∷ [])) t.state)

-- ---- what is not read again

-- a value that is still to be read is kept
abbrev pub release_if : Bool → Setting → ℕ → State → State
release_if true setting n s = s
release_if false setting n s = release setting n s

-- codegen.rs: the last loop of `run`. The first operand's slot is freed first, so the second's is used again first
unfoldable pub release_all : Setting → List (List ℕ) → List ℕ → State → State
release_all setting rest [] s = s
release_all setting rest (n ∷ reads) s = release_all setting rest reads (release_if (read_later rest n) setting n s)

-- ---- compute

-- "A dying operand, the first if both die, lends its register to the result"; else one is taken
abbrev pub result_register : Setting → List (List ℕ) → ℕ → List ℕ → State → ℕ → Allocated Taken
result_register setting rest n locked s zero = take_register setting rest n locked s
result_register setting rest n locked s (suc dying) =
    let register : ℕ = pred (register_of s dying) in
    allocated (record { register = register; state = lend register dying n s })

-- codegen.rs: `lower`, to a destination from the operands' registers; only computed nodes are lowered
abbrev pub lower : Node → ℕ → List ℕ → Operation
lower input_node dst operands = load_immediate 0 dst
lower network_node dst operands = load_immediate 0 dst
lower (constant_node bits) dst operands = load_immediate 0 dst
lower (parameter_node index) dst operands = load_immediate 0 dst
lower (state_node index) dst operands = load_immediate 0 dst
lower (delay_node index) dst operands = load_immediate 0 dst
lower (binary_node code lhs rhs) dst operands = binary code dst (get_or operands 0 0) (get_or operands 1 0)
lower (unary_node code input) dst operands = unary code dst (get_or operands 0 0)

-- codegen.rs: `run`, the arm `Op::Compute`
unfoldable pub run_compute : Setting → List (List ℕ) → List ℕ → ℕ → TakenAll → Allocated State
run_compute setting rest reads n fetched =
    and_then (result_register setting rest n fetched.registers fetched.state (first_of (λ d. not (read_later rest d)) reads))
    (λ t. allocated (release_all setting rest reads (emit_operation (lower (node_at setting.nodes n) t.register fetched.registers) t.state)))

-- ---- keep

-- codegen.rs: `run`, the arm `Op::StoreControl`
unfoldable pub run_keep : Setting → List (List ℕ) → List ℕ → ℕ → ℕ → TakenAll → Allocated State
run_keep setting rest reads slot n fetched =
    allocated (release_all setting rest reads (set_slot n slot (emit (store_control slot (get_or fetched.registers 0 0)) fetched.state)))

-- ---- store

-- codegen.rs: `Op::home`: the load that reads what a store overwrites: of 10 state and 11 delay 4 and 5, of 12 output 1 audio
abbrev pub home_code : ℕ → ℕ
home_code code = cond (eqb code 12) 1 (code - 6)

-- an old value is loaded while memory still holds it
abbrev pub preserve_if : Bool → Setting → List (List ℕ) → ℕ → List ℕ → State → Allocated State
preserve_if false setting rest n locked s = allocated s
preserve_if true setting rest n locked s = and_then (fetch setting rest n locked s) (λ t. allocated t.state)

-- codegen.rs: `preserve`: "then loads its memory's old values still to be read". They share the first node, if there is one. The Rust's own form, which
-- visits every node, is in RustStores
abbrev pub preserve : Setting → List (List ℕ) → List ℕ → State → ℕ → Allocated State
preserve setting rest locked s zero = allocated s
preserve setting rest locked s (suc n) = preserve_if (is_fresh s n && read_later rest n) setting rest n locked s

-- codegen.rs: `run`, the arm of memory writes: "A write fetches its value, then loads its memory's old values still to be read"
unfoldable pub run_store : Setting → List (List ℕ) → List ℕ → ℕ → ℕ → TakenAll → Allocated State
run_store setting rest reads code index fetched =
    and_then (preserve setting rest fetched.registers fetched.state (home_of setting.origins (home_code code) index))
    (λ s. allocated (release_all setting rest reads
    (stale (home_of setting.origins (home_code code) index) (emit (store_action code index (get_or fetched.registers 0 0)) s))))

-- ---- all tasks

-- codegen.rs: `run`, the match on the op, after its operands are fetched
unfoldable pub run_task : Setting → List (List ℕ) → List ℕ → Task → TakenAll → Allocated State
run_task setting rest reads (compute_task n) fetched = run_compute setting rest reads n fetched
run_task setting rest reads (keep_task slot n) fetched = run_keep setting rest reads slot n fetched
run_task setting rest reads (store_task code index n) fetched = run_store setting rest reads code index fetched

-- one turn of codegen.rs: `run`. While its operands are fetched the task's own reads count as the next ones; afterwards they do not
unfoldable pub allocate_task : Setting → List (List ℕ) → List ℕ → Task → State → Allocated State
allocate_task setting rest reads task s = and_then (fetch_all setting (reads ∷ rest) reads [] s) (λ fetched. run_task setting rest reads task fetched)

-- the reads of tasks, one after the other
unfoldable pub reads_of : Setting → List Task → List (List ℕ)
reads_of setting tasks = map (task_reads setting.nodes setting.origins) tasks

-- codegen.rs: `Allocator::run`
unfoldable pub allocate : Setting → List Task → State → Allocated State
allocate setting [] s = allocated s
allocate setting (task ∷ tasks) s =
    and_then (allocate_task setting (reads_of setting tasks) (task_reads setting.nodes setting.origins task) task s)
    (λ after. allocate setting tasks after)
