-- The words of a phase's tasks say the tasks: `named_is`. Assumes nothing.
use Rattle.std.specs.Prelude.{◌≡◌, refl, ◌⊎◌, cond, List, [], ◌∷◌, map, ℕ, suc, ◌+◌, ◌*◌, ◌-◌, ◌≤◌, ◌<◌, length, get_or, T, eqb}
use Rattle.std.proofs.Common.{inl, inr}
use native.Mathlib.Omega.{arith}
use borrow.Author.Tests.{lt-ltb, le-ltb}
use Rattle.block.specs.Block.{code, first, second}
use Rattle.plan.specs.Nodes.{node_at, is_computed}
use Rattle.plan.specs.Schedule.{Task, compute_task, keep_task, store_task}
use Rattle.allocate.specs.declared.Frame.{Frame}
use Rattle.allocate.specs.State.{Setting}
use Rattle.allocate.specs.Layout.{slot_at, task_at}
use Rattle.allocate.specs.Desk.{access}
use Rattle.allocate.specs.Tasks.{Lent, value_of, target_of}
use Rattle.allocate.specs.HoldsTasks.{TaskSays}
use Rattle.allocate.specs.HoldsLinks.{Named}

-- the memory of a store: states, then delays, then the output
abbrev pub store_word : Frame → ℕ → ℕ → ℕ
store_word frame c i = cond (eqb c 10) i (cond (eqb c 11) (frame.states + i) (frame.states + frame.delays))

-- a task as a word
abbrev pub task_word : Frame → Task → ℕ
task_word frame (compute_task n) = n
task_word frame (keep_task slot n) = frame.nodes + n
task_word frame (store_task c i n) = 2 * frame.nodes + store_word frame c i

-- a store's value is the update of its memory, or the output
abbrev pub Stored : Frame → Lent → ℕ → ℕ → ℕ → Type 0
Stored frame l c i n =
    ((c ≡ 10) × ((i < frame.states) × (get_or l.updates i 0 ≡ suc n)))
    ⊎ (((c ≡ 11) × ((i < frame.delays) × (get_or l.stores i 0 ≡ suc n))) ⊎ ((c ≡ 12) × ((i ≡ 0) × (l.output ≡ n))))

-- what the plan gives of a task
abbrev pub TaskFacts : Frame → Lent → Setting → List ℕ → Task → Type 0
TaskFacts frame l e work (compute_task n) =
    (n < frame.nodes)
    × (T (is_computed (node_at e.nodes n)) × ((first l.nodes n < frame.nodes) × (code l.nodes n < 11 → second l.nodes n < frame.nodes)))
TaskFacts frame l e work (keep_task slot n) = (n < frame.nodes) × ((get_or work (slot_at frame n) 0 ≡ suc slot) × (suc slot ≤ frame.fixed))
TaskFacts frame l e work (store_task c i n) = (n < frame.nodes) × Stored frame l c i n

-- .. of all tasks
abbrev pub AllFacts : Frame → Lent → Setting → List ℕ → List Task → Type 0
AllFacts frame l e work [] = Unit {0}
AllFacts frame l e work (task ∷ tasks) = TaskFacts frame l e work task × AllFacts frame l e work tasks

module _ (frame : Frame) (l : Lent) (e : Setting) (work : List ℕ) where
  abbrev Memory : ℕ → ℕ → ℕ → ℕ → Type 0
  Memory c i n m =
      (value_of frame l.updates l.stores l.output (2 * frame.nodes + m) ≡ n) × ((m ≤ frame.states + frame.delays) × (target_of frame m ≡ access c i))

  state_memory : (i n : ℕ) → i < frame.states → get_or l.updates i 0 ≡ suc n → Memory 10 i n i
  unfolding value_of target_of
  state_memory i n h q =
      let z : (2 * frame.nodes + i) - 2 * frame.nodes ≡ i = omega arith in (
        rw (le-ltb (2 * frame.nodes + i) (2 * frame.nodes) (omega arith), z, lt-ltb i frame.states h, q) (omega arith),
        (omega arith, rw (lt-ltb i frame.states h)),
      )

  delay_memory : (i n : ℕ) → i < frame.delays → get_or l.stores i 0 ≡ suc n → Memory 11 i n (frame.states + i)
  unfolding value_of target_of
  delay_memory i n h q =
      let z : (2 * frame.nodes + (frame.states + i)) - 2 * frame.nodes ≡ frame.states + i = omega arith in
      let y : (frame.states + i) - frame.states ≡ i = omega arith in
      let w = le-ltb (frame.states + i) frame.states (omega arith) in (
        rw (le-ltb (2 * frame.nodes + (frame.states + i)) (2 * frame.nodes) (omega arith), z, w, y, lt-ltb i frame.delays h, q) (omega arith),
        (omega arith, rw (w, y, lt-ltb i frame.delays h)),
      )

  output_memory : (n : ℕ) → l.output ≡ n → Memory 12 0 n (frame.states + frame.delays)
  unfolding value_of target_of
  output_memory n q =
      let m = frame.states + frame.delays in
      let z : (2 * frame.nodes + m) - 2 * frame.nodes ≡ m = omega arith in
      let y : m - frame.states ≡ frame.delays = omega arith in
      let w = le-ltb m frame.states (omega arith) in
      let v = le-ltb frame.delays frame.delays (omega arith) in (
        rw (le-ltb (2 * frame.nodes + m) (2 * frame.nodes) (omega arith), z, w, y, v) q,
        (omega arith, rw (w, y, v)),
      )

  stored_memory : (c i n : ℕ) → Stored frame l c i n → Memory c i n (store_word frame c i)
  stored_memory c i n (inl p) = rw p.0 (state_memory i n p.1.0 p.1.1)
  stored_memory c i n (inr (inl p)) = rw p.0 (delay_memory i n p.1.0 p.1.1)
  stored_memory c i n (inr (inr p)) = rw (p.0, p.1.0) (output_memory n p.1.1)

  -- a task's word says it
  pub says_is : (task : Task) → TaskFacts frame l e work task → TaskSays frame l e work (task_word frame task) task
  says_is (compute_task n) f = (refl, f)
  says_is (keep_task slot n) f = (refl, f)
  says_is (store_task c i n) f = let m = stored_memory c i n f.1 in (f.0, (m.0, (store_word frame c i, refl, m.1.0, m.1.1)))

  -- THE WORDS OF THE TASKS say the tasks
  pub named_is : (tasks : List Task) (position : ℕ) → AllFacts frame l e work tasks
      → ((i : ℕ) → i < length tasks → get_or work (task_at frame (position + i)) 0 ≡ get_or (map (task_word frame) tasks) i 0)
      → Named frame l e work position tasks
  named_is [] position f w = tt
  named_is (task ∷ tasks) position f w =
      let z : position + 0 ≡ position = omega arith in
      let q : get_or work (task_at frame position) 0 ≡ task_word frame task = rw z at (w 0 (omega arith)) in (
        rw q (says_is task f.0),
        named_is tasks (suc position) f.1 (λ i h. let y : position + suc i ≡ suc position + i = omega arith in rw y at (w (suc i) (omega arith))),
      )
