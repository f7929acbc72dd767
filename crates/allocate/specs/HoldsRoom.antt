-- What the code of a phase asks for, from what the tables hold: its steps never outgrow the tables, and its tasks read nodes. Assumes nothing.
use Rattle.std.specs.Prelude.{◌≡◌, refl, ◌⊎◌, List, [], ◌∷◌, ◌++◌, ℕ, zero, suc, ◌+◌, ◌*◌, ◌≤◌, ◌<◌, length, drop}
use Rattle.std.proofs.Common.{inl, inr, arith, length-append}
use Rattle.plan.specs.Schedule.{Task, compute_task, keep_task, store_task, task_reads}
use Rattle.allocate.specs.declared.Frame.{Frame}
use Rattle.allocate.specs.Actions.{Action, load, compute, spill, reload, store_state, store_delay, store_output, store_control}
use Rattle.allocate.specs.ActionWords.{operation_in, operations_in}
use Rattle.allocate.specs.State.{Allocated, allocated, all_locked, Setting, State}
use Rattle.allocate.specs.Allocator.{allocate_task, reads_of}
use Rattle.allocate.specs.Outcomes.{Post}
use Rattle.allocate.specs.StateLaws.{Sixteen}
use Rattle.allocate.specs.RunLaws.{HomesOk, cost, costs}
use Rattle.allocate.specs.Desk.{Desk, Choice}
use Rattle.allocate.specs.Ready.{RoomAt, Near, Kept, near_same, near_then}
use Rattle.allocate.specs.Tasks.{Lent, ran_to}
use Rattle.allocate.specs.Planned.{Planned, planned_same}
use Rattle.allocate.specs.TaskReady.{PhaseFits, ran_kept}
use Rattle.allocate.specs.Holds.{Holds}
use Rattle.allocate.specs.HoldsArms.{Done}
use Rattle.allocate.specs.HoldsTasks.{Tasked, tasked_same, task_holds}
use Rattle.allocate.specs.HoldsRun.{done_after, last_after, Going, Goes, going_next, ran_to_next, refused_stays}

-- a task emits a step at least in its budget
cost_some : (task : Task) → 1 ≤ cost task
cost_some (compute_task n) = omega arith
cost_some (keep_task slot n) = omega arith
cost_some (store_task c i n) = omega arith

-- no more instructions than steps
one_operation : (action : Action) → length (operation_in action) ≤ 1
one_operation (load source register) = omega arith
one_operation (compute operation) = omega arith
one_operation (spill slot register) = omega arith
one_operation (reload slot register) = omega arith
one_operation (store_state state register) = omega arith
one_operation (store_delay delay register) = omega arith
one_operation (store_output register) = omega arith
one_operation (store_control slot register) = omega arith

operations_few : (actions : List Action) → length (operations_in actions) ≤ length actions
operations_few [] = omega arith
operations_few (action ∷ actions) = omega (arith, length-append (operation_in action) (operations_in actions), one_operation action, operations_few actions)

module _ (frame : Frame) (l : Lent) (e : Setting) (table program : List ℕ) (prior : List Action) (own : List ℕ) (wf : Sixteen e) (homes : HomesOk own e.fixed) (start : Desk) (count total : ℕ) where
  abbrev at : ℕ → Choice
  at position = ran_to frame l start position

  -- what holds before each task that comes
  record Reached (position : ℕ) (tasks : List Task) : Type 0 where
    state : State
    done : List ℕ
    last : ℕ
    holds : Done frame l.nodes e table program prior (reads_of e tasks) position (at position) (allocated state)
    going : Going e own done last tasks state
    tasked : Tasked frame l e (at position).desk.work position tasks
    planned : Planned frame l count (at position).desk.work
    steps : length state.steps + costs tasks ≤ total
    near : Near frame (7 * position) start (at position).desk
    few : position + length tasks ≡ count

  reached_next : (position : ℕ) (task : Task) (tasks : List Task) → Reached position (task ∷ tasks)
      → ((at (suc position)).register ≡ 16) ⊎ Reached (suc position) tasks
  unfolding reads_of
  reached_next position task tasks x =
      go (allocate_task e (reads_of e tasks) (task_reads e.nodes e.origins task) task x.state)
      (rw (ran_to_next frame l start position x.holds.0)
      (task_holds frame l e table program prior (reads_of e tasks) position task own (at position).desk x.state x.holds.1 x.going.inv.good x.tasked.0))
      (going_next e own wf homes task tasks x.done x.last x.state x.going)
    where
      k : Kept frame 7 (at position).desk (at (suc position)).desk
      k =
          rw (ran_to_next frame l start position x.holds.0)
          (ran_kept frame l count position (at position).desk x.holds.1.ready x.planned (omega (arith, x.few)))

      go : (m : Allocated State) → Done frame l.nodes e table program prior (reads_of e tasks) (suc position) (at (suc position)) m
          → Post (Unit {0}) (Goes e own wf homes (done_after task x.done) (last_after task) tasks (cost task) x.state) m
          → ((at (suc position)).register ≡ 16) ⊎ Reached (suc position) tasks
      go (allocated s) a f =
          let z : 7 * position + 7 ≡ 7 * suc position = omega arith in
          inr (record {
            state = s;
            done = done_after task x.done;
            last = last_after task;
            holds = a;
            going = f.0;
            tasked = tasked_same frame l e (at position).desk.work (at (suc position)).desk.work k.1.same (suc position) tasks x.tasked.1;
            planned = planned_same frame (at position).desk.work (at (suc position)).desk.work k.1.same l count x.planned;
            steps = omega (arith, x.steps, f.1);
            near = rw (← z) (near_then frame (7 * position) 7 start (at position).desk (at (suc position)).desk x.near k.1);
            few = omega (arith, x.few);
          })
      go all_locked a f = inl a

  reached_all : (more position : ℕ) (tasks : List Task) → more ≤ length tasks → Reached position tasks
      → ((at (position + more)).register ≡ 16) ⊎ Reached (position + more) (drop more tasks)
  reached_all zero position tasks h x = let z : position + 0 ≡ position = omega arith in rw z (inr x)
  reached_all (suc more) position [] h x = absurd (omega arith)
  reached_all (suc more) position (task ∷ tasks) h x =
      let z : position + suc more ≡ suc position + more = omega arith in
      rw z (go (reached_next position task tasks x) (λ y. reached_all more (suc position) tasks (omega arith) y))
    where
      go : ((at (suc position)).register ≡ 16) ⊎ Reached (suc position) tasks
          → (Reached (suc position) tasks → ((at (suc position + more)).register ≡ 16) ⊎ Reached (suc position + more) (drop more tasks))
          → ((at (suc position + more)).register ≡ 16) ⊎ Reached (suc position + more) (drop more tasks)
      go (inl q) on = inl (refused_stays frame l start (suc position) more q)
      go (inr y) on = on y

  module _ (room : length prior + total + 6 ≤ 1048576) (slots : start.allocator.slots + 7 * count ≤ 1048576)
      (steps : 2 * (length prior + total + 6) ≤ length start.steps) (instructions : 2 * (length prior + total + 6) ≤ length start.instructions) where
    -- before a task there is room for what a task emits at most
    reached_room : (position : ℕ) (task : Task) (tasks : List Task) → Reached position (task ∷ tasks) → RoomAt 7 (at position).desk
    reached_room position task tasks x =
        let a = (at position).desk.allocator in
        let w = x.holds.1.written in
        let actions = prior ++ x.state.steps in
        let n : length actions ≡ length prior + length x.state.steps = length-append prior x.state.steps in
        let s : a.steps + 7 ≤ length prior + total + 6 = omega (arith, w.count, n, x.steps, cost_some task) in
        let i : a.instructions + 7 ≤ length prior + total + 6 = omega (arith, w.number, operations_few actions, n, x.steps, cost_some task) in
        record {
          steps = omega (arith, s, steps, x.near.steps_length);
          instructions = omega (arith, i, instructions, x.near.instructions_length);
          few = omega (arith, i, room);
          slots = omega (arith, x.near.slots, x.few, slots);
        }

    dropped_some : (more : ℕ) (tasks : List Task) → more < length tasks → (task : Task) × (rest : List Task) × (drop more tasks ≡ task ∷ rest)
    dropped_some more [] h = absurd (omega arith)
    dropped_some zero (task ∷ tasks) h = (task, tasks, refl)
    dropped_some (suc more) (task ∷ tasks) h = dropped_some more tasks (omega arith)

    -- WHAT THE CODE OF A PHASE ASKS FOR
    pub phase_fits : (tasks : List Task) (done : List ℕ) (last : ℕ) (s : State) → length tasks ≡ count
        → Holds frame l.nodes e table program prior (reads_of e tasks) 0 start s
        → Going e own done last tasks s
        → Tasked frame l e start.work 0 tasks
        → Planned frame l count start.work
        → length s.steps + costs tasks ≤ total
        → PhaseFits frame l count start
    unfolding ran_to
    phase_fits tasks done last s n h g t p b =
        record {
          ready = h.ready;
          planned = p;
          room = λ q l r. go q (reached_all q 0 tasks (omega arith) first) (dropped_some q tasks (omega arith)) r;
        }
      where
        first : Reached 0 tasks
        first =
            record {
              state = s;
              done = done;
              last = last;
              holds = ((λ z. omega arith), h);
              going = g;
              tasked = t;
              planned = p;
              steps = b;
              near = near_same frame start;
              few = omega (arith, n);
            }

        go : (q : ℕ) → ((at (0 + q)).register ≡ 16) ⊎ Reached (0 + q) (drop q tasks) → (task : Task) × (rest : List Task) × (drop q tasks ≡ task ∷ rest)
            → ((at q).register ≡ 16 → ⊥) → RoomAt 7 (at q).desk
        go q (inl x) y r = let z : 0 + q ≡ q = omega arith in absurd (r (rw z at x))
        go q (inr x) y r = let z : 0 + q ≡ q = omega arith in reached_room q y.0 y.1 (rw (z, y.2) at x)
