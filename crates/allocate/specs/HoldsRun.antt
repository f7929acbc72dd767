-- A phase's tasks on exact words are the first layer's: `allocate_holds`. Assumes nothing.
use Rattle.std.specs.Prelude.{◌≡◌, ◌⊎◌, eqb}
use Rattle.std.proofs.Common.{ap, inl, inr, eq-eqb, ne_eqb}
use Rattle.std.proofs.Math.Bool.{false}
use mathlib.Core.List.{List, [], ◌∷◌}
use Prim.Native.Nat.{ℕ, zero, suc, ◌+◌, ◌*◌, ◌≤◌}
use native.Mathlib.Omega.{arith}
use Rattle.std.proofs.Math.Nat.{suc_inj}
use Rattle.std.proofs.Math.ListN.{length}
use Rattle.std.proofs.Math.Dec.{T, eqb→eq}
use Rattle.tables.specs.Tests.{or_pass}
use Rattle.plan.specs.Lists.{member, is_some}
use Rattle.plan.specs.Origins.{has_origin, origin_at}
use Rattle.plan.specs.Schedule.{Task, compute_task, keep_task, store_task, task_reads}
use Rattle.plan.specs.TestLaws.{or_first, or_second}
use Rattle.plan.specs.OriginLaws.{home_known}
use Rattle.allocate.specs.declared.Frame.{Frame}
use Rattle.allocate.specs.Actions.{Action}
use Rattle.allocate.specs.State.{Allocated, allocated, all_locked, and_then, Setting, State, TakenAll, register_of}
use Rattle.allocate.specs.Allocator.{read_later, home_code, fetch_all, run_task, run_compute, run_keep, run_store, allocate_task, reads_of, allocate}
use Rattle.allocate.specs.Outcomes.{Post, post_bind}
use Rattle.allocate.specs.StateLaws.{Sixteen}
use Rattle.allocate.specs.ReadLaws.{FetchedAll, fetch_all_fetched}
use Rattle.allocate.specs.TaskLaws.{Invariant, Next, compute_next, keep_next, store_next}
use Rattle.allocate.specs.RunLaws.{HomesOk, TasksOk, cost, reads_keep, reads_store}
use Rattle.allocate.specs.Pressure.{reads_two}
use Rattle.allocate.specs.Desk.{Desk, Choice}
use Rattle.allocate.specs.Ready.{Kept}
use Rattle.allocate.specs.Tasks.{Lent, ran, ran_to}
use Rattle.allocate.specs.Planned.{Planned, planned_same}
use Rattle.allocate.specs.TaskReady.{ran_kept}
use Rattle.allocate.specs.Holds.{Holds}
use Rattle.allocate.specs.HoldsArms.{Done}
use Rattle.allocate.specs.HoldsTasks.{Tasked, tasked_same, task_holds}

-- ---- the invariant from task to task

-- what was computed, after a task
abbrev pub done_after : Task → List ℕ → List ℕ
done_after (compute_task n) done = n ∷ done
done_after (keep_task slot n) done = done
done_after (store_task c i n) done = done

-- what the last task computed, if it did
abbrev pub last_after : Task → ℕ
last_after (compute_task n) = suc n
last_after (keep_task slot n) = 0
last_after (store_task c i n) = 0

-- what the schedule owes the allocator for the tasks to come, and the invariant before them
pub record Going (e : Setting) (own done : List ℕ) (last : ℕ) (tasks : List Task) (s : State) : Type 0 where
  pub owed : TasksOk e own done last tasks
  pub inv : Invariant e own done (reads_of e tasks) s
  pub hot : (v : ℕ) → last ≡ suc v → T (read_later (reads_of e tasks) v) → T (is_some (register_of s v))

module _ (e : Setting) (own : List ℕ) (wf : Sixteen e) (homes : HomesOk own e.fixed) where
  -- it holds after a task too, which emits so many steps at most
  abbrev pub Goes : List ℕ → ℕ → List Task → ℕ → State → State → Type 0
  Goes done last tasks most s t = Going e own done last tasks t × (length t.steps ≤ length s.steps + most)

  -- A TASK KEEPS IT
  pub going_next : (task : Task) (tasks : List Task) (done : List ℕ) (last : ℕ) (s : State) → Going e own done last (task ∷ tasks) s
      → Post (Unit {0}) (Goes (done_after task done) (last_after task) tasks (cost task) s)
      (allocate_task e (reads_of e tasks) (task_reads e.nodes e.origins task) task s)
  unfolding allocate_task run_task reads_of
  going_next (compute_task n) tasks done last s g =
      let rd : List ℕ = task_reads e.nodes e.origins (compute_task n) in
      let rest : List (List ℕ) = reads_of e tasks in
      let o = g.owed in
      post_bind (Unit {0}) (FetchedAll e own [] rd s) (Goes (n ∷ done) (suc n) tasks 6 s) (fetch_all e (rd ∷ rest) rd [] s) _
      (fetch_all_fetched e own wf (rd ∷ rest) rd [] [] s g.inv.good (λ m t. (o.0 m t).0) tt)
      (λ x f. lift (run_compute e rest rd n x) (compute_next e own wf done rest rd n s x g.inv o.0 o.1 o.2 f))
    where
      lift : (x : Allocated State)
          → Post (Unit {0}) (λ t. Next e own (n ∷ done) (reads_of e tasks) (2 * length (task_reads e.nodes e.origins (compute_task n)) + 2) s t × (T (read_later (reads_of e tasks) n) → T (is_some (register_of t n)))) x
          → Post (Unit {0}) (Goes (n ∷ done) (suc n) tasks 6 s) x
      lift (allocated t) p = (
        record { owed = g.owed.3; inv = p.0.inv; hot = λ v q y. rw (← (suc_inj q)) (p.1 (rw (suc_inj q) y)) },
        omega (arith, p.0.grow, reads_two e (compute_task n)),
      )
      lift all_locked p = tt
  going_next (keep_task k v) tasks done last s g =
      let rd : List ℕ = task_reads e.nodes e.origins (keep_task k v) in
      let rest : List (List ℕ) = reads_of e tasks in
      let o = g.owed in
      post_bind (Unit {0}) (FetchedAll e own [] rd s) (Goes done 0 tasks 1 s) (fetch_all e (rd ∷ rest) rd [] s) _
      (fetch_all_fetched e own wf (rd ∷ rest) rd [] [] s g.inv.good (λ m t. (o.0 m t).0) tt)
      (λ x f. lift x f (run_keep e rest rd k v x) (keep_next e own wf done rest rd k v s x g.inv o.0 o.3 (homes.lt v k o.3) (λ m i. homes.inj m i k) f))
    where
      one : (m : ℕ) → T (member m (task_reads e.nodes e.origins (keep_task k v))) → T (is_some (register_of s m))
      one m t =
          let u : T (member m (v ∷ [])) = rw (reads_keep e k v, g.owed.2) at t in
          let z : m ≡ v = eqb→eq m v (single (or_pass (eqb m v) false u)) in
          let t₁ : T (member v (task_reads e.nodes e.origins (keep_task k v))) = rw z at t in
          rw z (g.hot v g.owed.1 (or_first (member v (task_reads e.nodes e.origins (keep_task k v))) (read_later (reads_of e tasks) v) t₁))
        where
          single : T (eqb m v) ⊎ ⊥ → T (eqb m v)
          single (inl u) = u
          single (inr u) = absurd u

      lift : (y : TakenAll) → FetchedAll e own [] (task_reads e.nodes e.origins (keep_task k v)) s y → (x : Allocated State)
          → Post (Unit {0}) (λ t. Invariant e own done (reads_of e tasks) t × (length t.steps ≤ length y.state.steps + 1)) x
          → Post (Unit {0}) (Goes done 0 tasks 1 s) x
      lift y f (allocated t) p = (record { owed = g.owed.4; inv = p.0; hot = λ v q y. absurd (omega arith) }, rw (f.quiet one) at p.1)
      lift y f all_locked p = tt
  going_next (store_task c j v) tasks done last s g =
      let rd : List ℕ = task_reads e.nodes e.origins (store_task c j v) in
      let rest : List (List ℕ) = reads_of e tasks in
      let o = g.owed in
      post_bind (Unit {0}) (FetchedAll e own [] rd s) (Goes done 0 tasks 5 s) (fetch_all e (rd ∷ rest) rd [] s) _
      (fetch_all_fetched e own wf (rd ∷ rest) rd [] [] s g.inv.good (λ m t. (o.0 m t).0) tt)
      (λ x f. lift (run_store e rest rd c j x) (store_next e own wf done rest rd c j s x g.inv o.0 (λ n q. ((home_known e.origins (home_code c) j n q).0, or_second (member n done) (has_origin (origin_at e.origins n)) (home_known e.origins (home_code c) j n q).1)) f))
    where
      lift : (x : Allocated State)
          → Post (Unit {0}) (Next e own done (reads_of e tasks) (2 * length (task_reads e.nodes e.origins (store_task c j v)) + 3) s) x
          → Post (Unit {0}) (Goes done 0 tasks 5 s) x
      lift (allocated t) p =
          (record { owed = g.owed.1; inv = p.inv; hot = λ v q y. absurd (omega arith) }, omega (arith, p.grow, ap length (reads_store e c j v)))
      lift all_locked p = tt

-- ---- all tasks

-- what was refused stays so
pub refused_stays : (frame : Frame) (l : Lent) (d : Desk) (position more : ℕ) → (ran_to frame l d position).register ≡ 16
    → (ran_to frame l d (position + more)).register ≡ 16
unfolding ran_to
refused_stays frame l d position zero q = let z : position + 0 ≡ position = omega arith in rw z q
refused_stays frame l d position (suc more) q =
    let z : position + suc more ≡ suc (position + more) = omega arith in
    let k = refused_stays frame l d position more q in
    rw (z, eq-eqb (ran_to frame l d (position + more)).register 16 k) k

-- a turn
pub ran_to_next : (frame : Frame) (l : Lent) (d : Desk) (position : ℕ) → ((ran_to frame l d position).register ≡ 16 → ⊥)
    → ran_to frame l d (suc position) ≡ ran frame l position (ran_to frame l d position).desk
unfolding ran_to
ran_to_next frame l d position n = rw (ne_eqb (ran_to frame l d position).register 16 n)

module _ (frame : Frame) (l : Lent) (e : Setting) (table program : List ℕ) (prior : List Action) (own : List ℕ) (wf : Sixteen e) (homes : HomesOk own e.fixed) (start : Desk) (count : ℕ) where
  abbrev at : ℕ → Choice
  at position = ran_to frame l start position

  -- THE TASKS FROM A POSITION ON, up to the first that both refuse
  pub tasks_hold : (tasks : List Task) (position : ℕ) (done : List ℕ) (last : ℕ) (s : State) → position + length tasks ≡ count
      → Done frame l.nodes e table program prior (reads_of e tasks) position (at position) (allocated s)
      → Going e own done last tasks s
      → Tasked frame l e (at position).desk.work position tasks
      → Planned frame l count (at position).desk.work
      → Done frame l.nodes e table program prior [] count (at count) (allocate e tasks s)
  unfolding allocate reads_of
  tasks_hold [] position done last s n h g t p = let z : count ≡ position = omega arith in rw z h
  tasks_hold (task ∷ tasks) position done last s n h g t p =
      go (allocate_task e (reads_of e tasks) (task_reads e.nodes e.origins task) task s)
      (rw (ran_to_next frame l start position h.0) (task_holds frame l e table program prior (reads_of e tasks) position task own (at position).desk s h.1 g.inv.good t.0))
      (going_next e own wf homes task tasks done last s g)
      (λ x a f t₁ p₁. tasks_hold tasks (suc position) (done_after task done) (last_after task) x (omega arith) a f t₁ p₁)
    where
      k : Kept frame 7 (at position).desk (at (suc position)).desk
      k = rw (ran_to_next frame l start position h.0) (ran_kept frame l count position (at position).desk h.1.ready p (omega arith))

      go : (m : Allocated State) → Done frame l.nodes e table program prior (reads_of e tasks) (suc position) (at (suc position)) m
          → Post (Unit {0}) (Goes e own wf homes (done_after task done) (last_after task) tasks (cost task) s) m
          → ((x : State)
          → Done frame l.nodes e table program prior (reads_of e tasks) (suc position) (at (suc position)) (allocated x)
          → Going e own (done_after task done) (last_after task) tasks x
          → Tasked frame l e (at (suc position)).desk.work (suc position) tasks
          → Planned frame l count (at (suc position)).desk.work
          → Done frame l.nodes e table program prior [] count (at count) (allocate e tasks x))
          → Done frame l.nodes e table program prior [] count (at count) (and_then m (λ x. allocate e tasks x))
      go (allocated x) a f on =
          on x a f.0
          (tasked_same frame l e (at position).desk.work (at (suc position)).desk.work k.1.same (suc position) tasks t.1)
          (planned_same frame (at position).desk.work (at (suc position)).desk.work k.1.same l count p)
      go all_locked a f on =
          let z : suc position + length tasks ≡ count = omega arith in
          rw z at (refused_stays frame l start (suc position) (length tasks) a)

  -- A PHASE: from a desk that holds the state at the phase's start to one that holds the state at its end, or both refuse
  pub allocate_holds : (tasks : List Task) (done : List ℕ) (last : ℕ) (s : State) → length tasks ≡ count
      → Holds frame l.nodes e table program prior (reads_of e tasks) 0 start s
      → Going e own done last tasks s
      → Tasked frame l e start.work 0 tasks
      → Planned frame l count start.work
      → Done frame l.nodes e table program prior [] count (ran_to frame l start count) (allocate e tasks s)
  unfolding ran_to
  allocate_holds tasks done last s n h g t p = tasks_hold tasks 0 done last s (omega arith) ((λ z. omega arith), h) g t p
