-- codegen.rs: `impl Allocator` in its own forms: a list of positions for each node and an index into it (`reads`, `next`), pairs for `max_by_key`, loops over
-- every node in `preserve` and after a store. `next` is `next_read`, an option for each node. That it gives what the allocator gives is in RustSame.
-- Definitions alone.
use Rattle.std.specs.Prelude.{Bool, true, false, not, cond, ◌&&◌, List, [], ◌∷◌, ◌++◌, ℕ, zero, suc, pred, ◌+◌, length, get_or, set, drop, replicate, leb}
use Rattle.plan.specs.Lists.{member, filter, first_of, count_up, is_some, is_none}
use Rattle.plan.specs.Nodes.{node_at}
use Rattle.plan.specs.Origins.{Origin, is_load, origin_at}
use Rattle.plan.specs.Schedule.{Task, task_reads, compute_task, keep_task, store_task}
use Rattle.allocate.specs.Actions.{store_control, store_action}
use Rattle.allocate.specs.State.{Allocated, allocated, and_then, Setting, State, Taken, TakenAll, register_of, owner_of, is_fresh, reloadable, emit, emit_operation, set_slot, place, lend}
use Rattle.allocate.specs.Allocator.{take_best, bring, release_if, lower, home_code, reads_of}

-- ---- `reads` and `next`

-- `reads[node].push(position)`
abbrev pub push : ℕ → ℕ → List (List ℕ) → List (List ℕ)
push position n table = set table n (get_or table n [] ++ (position ∷ []))

-- .. for each node that the op at this position reads
abbrev pub push_all : ℕ → List ℕ → List (List ℕ) → List (List ℕ)
push_all position [] table = table
push_all position (n ∷ reads) table = push_all position reads (push position n table)

-- .. for each op from this position on: the loop of `Allocator::new`
abbrev pub read_table : ℕ → List (List ℕ) → List (List ℕ) → List (List ℕ)
read_table position [] table = table
read_table position (reads ∷ rest) table = read_table (suc position) rest (push_all position reads table)

-- `get`: element i, if there is one
abbrev pub element_at : List ℕ → ℕ → ℕ
element_at [] i = 0
element_at (x ∷ xs) zero = suc x
element_at (x ∷ xs) (suc i) = element_at xs i

-- `next_read`
abbrev pub next_read_in : List (List ℕ) → List ℕ → ℕ → ℕ
next_read_in table indices n = element_at (get_or table n []) (get_or indices n 0)

-- how many of the first positions are at or before this one: the turns of the `while` in `run`
abbrev pub passed : ℕ → List ℕ → ℕ
passed position [] = 0
passed position (x ∷ xs) = cond (leb x position) (suc (passed position xs)) 0

-- the indices after the op at this position, which reads these nodes
abbrev pub advance : ℕ → List ℕ → List (List ℕ) → List ℕ → List ℕ
advance position [] table indices = indices
advance position (n ∷ reads) table indices =
    advance position reads table (set indices n (get_or indices n 0 + passed position (drop (get_or indices n 0) (get_or table n []))))

-- ---- `take`

-- `usize::MAX`
abbrev pub usize_max : ℕ
usize_max = 18446744073709551615

-- `unwrap_or`
abbrev pub unwrap_or : ℕ → ℕ → ℕ
unwrap_or other zero = other
unwrap_or other (suc x) = x

-- pairs are compared by their first parts, then by their second
abbrev pub pair_le : Bool → ℕ → Bool → ℕ → Bool
pair_le true x true y = leb x y
pair_le true x false y = false
pair_le false x true y = true
pair_le false x false y = leb x y

-- the keys of two registers: `(self.reloadable(victim), self.next_read(victim).unwrap_or(usize::MAX))`
unfoldable pub key_le : (ℕ → ℕ) → State → ℕ → ℕ → Bool
key_le next s q r =
    let v : ℕ = pred (owner_of s q) in
    let w : ℕ = pred (owner_of s r) in
    pair_le (reloadable s v) (unwrap_or usize_max (next v)) (reloadable s w) (unwrap_or usize_max (next w))

-- `max_by_key`: the last of the greatest, if there is any
abbrev pub better_by : (ℕ → ℕ → Bool) → ℕ → ℕ → ℕ
better_by le x zero = suc x
better_by le x (suc y) = cond (le x y) (suc y) (suc x)

-- .. of a list
abbrev pub best_by : (ℕ → ℕ → Bool) → List ℕ → ℕ
best_by le [] = 0
best_by le (x ∷ xs) = better_by le x (best_by le xs)

-- the free register, or the best of the unlocked ones
abbrev pub take_free_rust : Setting → (ℕ → ℕ) → ℕ → List ℕ → State → ℕ → Allocated Taken
take_free_rust setting next n locked s zero =
    take_best setting n s (best_by (key_le next s) (filter (λ register. not (member register locked)) setting.registers))
take_free_rust setting next n locked s (suc register) = allocated (record { register = register; state = place n register s })

-- `take`
unfoldable pub take_rust : Setting → (ℕ → ℕ) → ℕ → List ℕ → State → Allocated Taken
take_rust setting next n locked s =
    take_free_rust setting next n locked s (first_of (λ register. is_none (owner_of s register)) setting.registers)

-- ---- `fetch`

-- it is held, or a register is taken and filled
abbrev pub fetch_held_rust : Setting → (ℕ → ℕ) → ℕ → List ℕ → State → ℕ → Allocated Taken
fetch_held_rust setting next n locked s (suc register) = allocated (record { register = register; state = s })
fetch_held_rust setting next n locked s zero =
    and_then (take_rust setting next n locked s)
    (λ t. allocated (record { register = t.register; state = bring setting n t.register t.state }))

-- `fetch`
unfoldable pub fetch_rust : Setting → (ℕ → ℕ) → ℕ → List ℕ → State → Allocated Taken
fetch_rust setting next n locked s = fetch_held_rust setting next n locked s (register_of s n)

-- the first loop of `run`'s body
abbrev pub fetch_all_rust : Setting → (ℕ → ℕ) → List ℕ → List ℕ → State → Allocated TakenAll
fetch_all_rust setting next [] locked s = allocated (record { registers = locked; state = s })
fetch_all_rust setting next (n ∷ reads) locked s =
    and_then (fetch_rust setting next n locked s) (λ t. fetch_all_rust setting next reads (locked ++ (t.register ∷ [])) t.state)

-- .. and its last
abbrev pub release_all_rust : Setting → (ℕ → ℕ) → List ℕ → State → State
release_all_rust setting next [] s = s
release_all_rust setting next (n ∷ reads) s = release_all_rust setting next reads (release_if (is_some (next n)) setting n s)

-- ---- `Op::Compute`: `dying` is the first operand whose `next_read` is none

-- `dst`: the dying operand's register, or a new one
abbrev pub result_rust : Setting → (ℕ → ℕ) → ℕ → List ℕ → State → ℕ → Allocated Taken
result_rust setting next n locked s zero = take_rust setting next n locked s
result_rust setting next n locked s (suc dying) =
    let register : ℕ = pred (register_of s dying) in
    allocated (record { register = register; state = lend register dying n s })

-- the arm
abbrev pub compute_rust : Setting → (ℕ → ℕ) → List ℕ → ℕ → TakenAll → Allocated State
compute_rust setting next reads n fetched =
    and_then (result_rust setting next n fetched.registers fetched.state (first_of (λ d. is_none (next d)) reads))
    (λ t.
    allocated
    (release_all_rust setting next reads (emit_operation (lower (node_at setting.nodes n) t.register fetched.registers) t.state)))

-- ---- `Op::StoreControl`

-- the arm
abbrev pub keep_rust : Setting → (ℕ → ℕ) → List ℕ → ℕ → ℕ → TakenAll → Allocated State
keep_rust setting next reads slot n fetched =
    allocated
    (release_all_rust setting next reads (set_slot n slot (emit (store_control slot (get_or fetched.registers 0 0)) fetched.state)))

-- ---- memory writes

-- fetch node n, if asked to, and lock its register; then go on
abbrev pub visit_rust : Bool → Setting → (ℕ → ℕ) → ℕ → List ℕ → State → (List ℕ → State → Allocated State) → Allocated State
visit_rust false setting next n locked s go = go locked s
visit_rust true setting next n locked s go =
    and_then (fetch_rust setting next n locked s) (λ t. go (locked ++ (t.register ∷ [])) t.state)

-- `preserve`: every node whose value is the load of this code and index, fresh and still to be read, is fetched
abbrev pub preserve_rust : Setting → (ℕ → ℕ) → ℕ → ℕ → List ℕ → State → List ℕ → Allocated State
preserve_rust setting next code index locked s [] = allocated s
preserve_rust setting next code index locked s (n ∷ nodes) =
    visit_rust (is_load code index (origin_at setting.origins n) && (is_fresh s n && is_some (next n))) setting next n locked s
    (λ l t. preserve_rust setting next code index l t nodes)

-- every node whose value is that load is fresh no more: the loop after a store
abbrev pub hide_loads : ℕ → ℕ → List Origin → List Bool → List Bool
hide_loads code index origins [] = []
hide_loads code index [] (flag ∷ flags) = flag ∷ flags
hide_loads code index (x ∷ origins) (flag ∷ flags) = cond (is_load code index x) false flag ∷ hide_loads code index origins flags

-- .. of a state
abbrev pub hide_all : Setting → ℕ → ℕ → State → State
hide_all setting code index s =
    record {
      holder = s.holder;
      owner = s.owner;
      spilled = s.spilled;
      fresh = hide_loads code index setting.origins s.fresh;
      free = s.free;
      slots = s.slots;
      steps = s.steps;
      most = s.most;
    }

-- the arm of all other ops
abbrev pub store_rust : Setting → (ℕ → ℕ) → List ℕ → ℕ → ℕ → TakenAll → Allocated State
store_rust setting next reads code index fetched =
    and_then (preserve_rust setting next (home_code code) index fetched.registers fetched.state (count_up 0 (length setting.origins)))
    (λ s.
    allocated
    (release_all_rust setting next reads (hide_all setting (home_code code) index (emit (store_action code index (get_or fetched.registers 0 0)) s))))

-- ---- `run`

-- the match on the op
abbrev pub task_rust : Setting → (ℕ → ℕ) → List ℕ → Task → TakenAll → Allocated State
task_rust setting next reads (compute_task n) fetched = compute_rust setting next reads n fetched
task_rust setting next reads (keep_task slot n) fetched = keep_rust setting next reads slot n fetched
task_rust setting next reads (store_task code index n) fetched = store_rust setting next reads code index fetched

-- the ops from this position on: operands are fetched before the indices move on, all else comes after
abbrev pub run_rust : Setting → List (List ℕ) → ℕ → List ℕ → List Task → State → Allocated State
run_rust setting table position indices [] s = allocated s
run_rust setting table position indices (task ∷ tasks) s =
    let reads : List ℕ = task_reads setting.nodes setting.origins task in
    let moved : List ℕ = advance position reads table indices in
    and_then
    (and_then (fetch_all_rust setting (next_read_in table indices) reads [] s) (λ fetched. task_rust setting (next_read_in table moved) reads task fetched))
    (λ after. run_rust setting table (suc position) moved tasks after)

-- `Allocator::new`, then `run`
unfoldable pub allocate_rust : Setting → List Task → State → Allocated State
allocate_rust setting tasks s =
    let nodes : ℕ = length setting.origins in
    run_rust setting (read_table 0 (reads_of setting tasks) (replicate nodes [])) 0 (replicate nodes 0) tasks s
