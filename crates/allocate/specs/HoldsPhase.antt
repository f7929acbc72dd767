-- A PHASE on exact words is the first layer's, from the tables that the plan leaves to the tables of steps: `phase_holds`. Assumes nothing.
use Rattle.std.specs.Prelude.{◌≡◌, true, false, ℕ, zero, suc, ◌+◌, ◌*◌, ◌≤◌, ◌<◌, length, get_or, drop, replicate}
use Rattle.std.proofs.Math.Path.{refl}
use Rattle.std.proofs.Common.{ap, ◌∙◌, arith, eq-eqb, ne_eqb}
use mathlib.Core.List.{List, [], ◌∷◌, ◌++◌}
use Rattle.std.proofs.Math.Decide.{ℕ_discrete}
use Rattle.std.proofs.Math.ListN.{length-map}
use Rattle.std.proofs.lemmas.List.Edits.{sets-eq}
use Rattle.tables.specs.Parts.{part}
use Rattle.plan.specs.Origins as Origins
use Rattle.plan.specs.OriginLaws.{home_known}
use Rattle.plan.specs.Schedule.{Task, compute_task, keep_task, store_task, task_reads}
use Rattle.allocate.specs.declared.Frame.{Frame}
use Rattle.allocate.specs.Actions.{Action}
use Rattle.allocate.specs.ActionWords.{operations_in, step_words, instruction_words, steps_length, instructions_length}
use Rattle.allocate.specs.State.{Setting, begin}
use Rattle.allocate.specs.Allocator.{home_code, reads_of, allocate}
use Rattle.allocate.specs.RunLaws.{HomesOk, TasksOk, costs}
use Rattle.allocate.specs.Layout.{slot_at, next_at, task_at}
use Rattle.allocate.specs.Desk.{Desk, desk, Choice}
use Rattle.allocate.specs.Tasks.{Lent, home_of, target_of, ran_to, outcome_of}
use Rattle.allocate.specs.Planned.{TaskFits, Planned}
use Rattle.allocate.specs.TaskReady.{PhaseFits}
use Rattle.allocate.specs.Holds.{Phase, next_words, Written, Holds}
use Rattle.allocate.specs.HoldsTake.{phase_sixteen}
use Rattle.allocate.specs.HoldsArms.{Done}
use Rattle.allocate.specs.HoldsTasks.{TaskSays, Tasked, canonical_below, keep_value}
use Rattle.allocate.specs.HoldsRun.{allocate_holds}
use Rattle.allocate.specs.HoldsBegin.{Begins, begin_holds, begin_going}
use Rattle.allocate.specs.Links.{linked}
use Rattle.allocate.specs.HoldsLinks.{Named, links_hold, begins_linked}
use Rattle.allocate.specs.HoldsRoom.{phase_fits}

-- ---- the plan's regions, as the code asks for them

module _ (frame : Frame) (l : Lent) (e : Setting) (work : List ℕ) (phase : Phase frame l.nodes e work) where
  -- the words of a task
  abbrev Task-at : ℕ → Type 0
  Task-at p = (task : Task) × TaskSays frame l e work (get_or work (task_at frame p) 0) task

  task_of : (tasks : List Task) (position p : ℕ) → Tasked frame l e work position tasks → position ≤ p → p < position + length tasks → Task-at p
  task_of [] position p t h k = absurd (omega arith)
  task_of (task ∷ tasks) position p t h k = go (ℕ_discrete p position) (λ q. task_of tasks (suc position) p t.1 q (omega arith))
    where
      go : Dec (p ≡ position) → (suc position ≤ p → Task-at p) → Task-at p
      go (yes z) on = (task, rw z t.0.says)
      go (no z) on = on (omega arith)

  fits : (3 * frame.nodes ≤ length l.nodes) × ((frame.states ≤ length l.updates) × (frame.delays ≤ length l.stores))
      → (word : ℕ) (task : Task) → TaskSays frame l e work word task → TaskFits frame l word
  fits s word (compute_task n) t =
      record {
        nodes = s.0;
        updates = s.1.0;
        stores = s.1.1;
        lhs = λ h. rw t.0 t.1.1.1.0;
        rhs = λ h. rw t.0 t.1.1.1.1;
        value = λ h. absurd (omega (arith, t.0, t.1.0));
      }
  fits s word (keep_task slot n) t =
      record {
        nodes = s.0;
        updates = s.1.0;
        stores = s.1.1;
        lhs = λ h. absurd (omega (arith, t.0));
        rhs = λ h. absurd (omega (arith, t.0));
        value = λ h. rw (t.0, keep_value frame l e work phase n t.1.0) t.1.0;
      }
  fits s word (store_task c i n) t =
      record {
        nodes = s.0;
        updates = s.1.0;
        stores = s.1.1;
        lhs = λ h. absurd (omega (arith, t.1.1.1));
        rhs = λ h. absurd (omega (arith, t.1.1.1));
        value = λ h. rw t.1.0 t.0;
      }

  inside : (word : ℕ) (task : Task) → TaskSays frame l e work word task → word ≤ 2 * frame.nodes + frame.states + frame.delays
  inside word (compute_task n) t = omega (arith, t.0, t.1.0)
  inside word (keep_task slot n) t = omega (arith, t.0, t.1.0)
  inside word (store_task c i n) t = omega (arith, t.1.1.1, t.1.1.2)

  keeps : (word : ℕ) (task : Task) → TaskSays frame l e work word task → (i : ℕ) → i < frame.nodes → word ≡ frame.nodes + i
      → get_or work (slot_at frame i) 0 ≤ frame.fixed
  keeps word (compute_task n) t i h q = absurd (omega (arith, t.0, t.1.0))
  keeps word (keep_task slot n) t i h q = let z : i ≡ n = omega (arith, t.0) in rw (z, t.1.1.0) t.1.1.1
  keeps word (store_task c j n) t i h q = absurd (omega (arith, t.1.1.1))

  homes_inside : (memory : ℕ) → memory ≤ frame.states + frame.delays → home_of frame work memory ≤ frame.nodes
  homes_inside memory h = rw (phase.homes memory h) (go (Origins.home_of e.origins (home_code (target_of frame memory).code) (target_of frame memory).index) refl)
    where
      go : (x : ℕ) → Origins.home_of e.origins (home_code (target_of frame memory).code) (target_of frame memory).index ≡ x → x ≤ frame.nodes
      go zero q = omega arith
      go (suc n) q = rw phase.count at (home_known e.origins (home_code (target_of frame memory).code) (target_of frame memory).index n q).0

  -- THE PLAN'S REGIONS are as the code asks
  pub planned_is : (tasks : List Task) → Tasked frame l e work 0 tasks → length tasks ≤ 2 * frame.nodes + frame.states + frame.delays + 1
      → (3 * frame.nodes ≤ length l.nodes) × ((frame.states ≤ length l.updates) × (frame.delays ≤ length l.stores))
      → Planned frame l (length tasks) work
  planned_is tasks t few sizes =
      let at : (p : ℕ) → p < length tasks → Task-at p = λ p h. task_of tasks 0 p t (omega arith) (omega arith) in
      record {
        canonical = λ i h. rw (phase.firsts i h) (canonical_below frame l e work phase i h);
        homes = homes_inside;
        few = few;
        tasks = λ p h. let x = at p h in fits sizes (get_or work (task_at frame p) 0) x.0 x.1;
        inside = λ p h. let x = at p h in inside (get_or work (task_at frame p) 0) x.0 x.1;
        keeps = λ p i h k q. let x = at p h in keeps (get_or work (task_at frame p) 0) x.0 x.1 i k q;
      }

-- ---- a phase

-- the tables as a phase begins: the allocator's own regions are cleared, the plan's hold the setting, the tasks, their links and the next reads; `own` are
-- hoisted values' own slots; and the lent tables are as long as they should be
pub record PhaseBegins (frame : Frame) (l : Lent) (e : Setting) (table program : List ℕ) (prior : List Action) (own : List ℕ) (tasks : List Task) (start : Desk) : Type 0 where
  pub begins : Begins frame e start
  pub phase : Phase frame l.nodes e start.work
  pub tasked : Tasked frame l e start.work 0 tasks
  pub nexts : part (next_at frame 0) frame.nodes start.work ≡ next_words (reads_of e tasks) 0 frame.nodes
  pub written : Written table program prior start.steps start.instructions start.allocator.steps start.allocator.instructions
  pub owed : TasksOk e own [] 0 tasks
  pub homes : HomesOk own e.fixed
  pub few : length tasks ≤ 2 * frame.nodes + frame.states + frame.delays + 1
  pub sizes : (3 * frame.nodes ≤ length l.nodes) × ((frame.states ≤ length l.updates) × (frame.delays ≤ length l.stores))

module _ (frame : Frame) (l : Lent) (e : Setting) (table program : List ℕ) (prior : List Action) (own : List ℕ) (tasks : List Task) (start : Desk)
    (b : PhaseBegins frame l e table program prior own tasks start) where
  holds : Holds frame l.nodes e table program prior (reads_of e tasks) 0 start (begin e)
  unfolding reads_of
  holds =
      let w = b.begins.wide in
      begin_holds frame e start b.begins l.nodes table program prior (reads_of e tasks) b.phase
      (omega (arith, b.few, length-map tasks (task_reads e.nodes e.origins), w.small, w.states, w.delays)) b.nexts b.written

  -- THE STEPS OF A PHASE: both layers refuse, or the tables hold the state at its end
  pub phase_holds : Done frame l.nodes e table program prior [] (length tasks) (ran_to frame l start (length tasks)) (allocate e tasks (begin e))
  phase_holds =
      allocate_holds frame l e table program prior own (phase_sixteen frame l.nodes e start.work b.phase) b.homes start (length tasks) tasks [] 0
      (begin e) refl holds
      (begin_going e own tasks b.owed) b.tasked (planned_is frame l e start.work b.phase tasks b.tasked b.few b.sizes)

  -- WHAT THE CODE ASKS FOR, where the tables are long enough for all that the tasks emit at most
  pub phase_asks : length prior + costs tasks + 6 ≤ 1048576 → start.allocator.slots + 7 * length tasks ≤ 1048576
      → 2 * (length prior + costs tasks + 6) ≤ length start.steps → 2 * (length prior + costs tasks + 6) ≤ length start.instructions
      → PhaseFits frame l (length tasks) start
  unfolding begin
  phase_asks room slots steps instructions =
      phase_fits frame l e table program prior own (phase_sixteen frame l.nodes e start.work b.phase) b.homes start (length tasks)
      (costs tasks) room slots steps instructions
      tasks [] 0 (begin e) refl holds (begin_going e own tasks b.owed) b.tasked
      (planned_is frame l e start.work b.phase tasks b.tasked b.few b.sizes) (omega arith)

-- ---- how a phase ends

-- all done, where nothing is refused
pub ended_done : (c : Choice) → (c.register ≡ 16 → ⊥) → (outcome_of c).done ≡ true
unfolding outcome_of
ended_done c n = rw (ne_eqb c.register 16 n)

-- else not
pub ended_not : (c : Choice) → c.register ≡ 16 → (outcome_of c).done ≡ false
unfolding outcome_of
ended_not c q = rw (eq-eqb c.register 16 q)

-- ---- one phase after the other

-- before the first phase nothing is written
pub written_none : (table program : List ℕ) → Written table program [] table program 0 0
written_none table program = record { count = refl; number = refl; words = refl; operations = refl }

-- THE TABLES OF STEPS AND INSTRUCTIONS, where they have room: the words of all actions, and behind them what was lent
pub written_tables : (table program : List ℕ) (actions : List Action) (steps instructions : List ℕ) (k m : ℕ) → Written table program actions steps instructions k m
    → 2 * length actions ≤ length table → 2 * length (operations_in actions) ≤ length program
    → (steps ≡ step_words 0 actions ++ drop (length (step_words 0 actions)) table)
    × (instructions ≡ instruction_words (operations_in actions) ++ drop (length (instruction_words (operations_in actions))) program)
written_tables table program actions steps instructions k m w s i =
    let a = step_words 0 actions in
    let b = instruction_words (operations_in actions) in
    let x : 0 + length a ≡ length a = omega arith in
    let y : 0 + length b ≡ length b = omega arith in (
      w.words ∙ (sets-eq a table 0 (omega (arith, steps_length 0 actions)) ∙ ap (λ (n : ℕ). a ++ drop n table) x),
      w.operations ∙ (sets-eq b program 0 (omega (arith, instructions_length (operations_in actions))) ∙ ap (λ (n : ℕ). b ++ drop n program) y),
    )

-- THE START OF A PHASE, from the tables before its tasks are linked: no node has a next read yet, and the words of the tasks say them
pub phase_starts : (frame : Frame) (l : Lent) (e : Setting) (table program : List ℕ) (prior : List Action) (own : List ℕ) (tasks : List Task) (d : Desk)
    → Begins frame e d → Phase frame l.nodes e d.work → Named frame l e d.work 0 tasks
    → part (next_at frame 0) frame.nodes d.work ≡ replicate frame.nodes 0
    → Written table program prior d.steps d.instructions d.allocator.steps d.allocator.instructions
    → TasksOk e own [] 0 tasks → HomesOk own e.fixed
    → length tasks ≤ 2 * frame.nodes + frame.states + frame.delays + 1
    → (3 * frame.nodes ≤ length l.nodes) × ((frame.states ≤ length l.updates) × (frame.delays ≤ length l.stores))
    → PhaseBegins frame l e table program prior own tasks (desk (linked frame l (length tasks) d.work) d.steps d.instructions d.allocator)
phase_starts frame l e table program prior own tasks d begins phase named none written owed homes few sizes =
    let k = links_hold frame l e d.work tasks begins.wide phase named few none in
    record {
      begins = begins_linked frame l e tasks d (linked frame l (length tasks) d.work) k begins;
      phase = k.phase;
      tasked = k.tasked;
      nexts = k.nexts;
      written = written;
      owed = owed;
      homes = homes;
      few = few;
      sizes = sizes;
    }
