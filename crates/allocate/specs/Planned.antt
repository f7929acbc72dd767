-- What the plan's regions hold, as the allocator asks for it, and that the allocator leaves it so. The second layer. Assumes nothing.
use Rattle.std.specs.Prelude.{◌≡◌, ◌⊎◌, cond, List, ℕ, ◌+◌, ◌*◌, ◌≤◌, ◌<◌, length, get_or, ltb}
use Rattle.std.proofs.Common.{sym, ◌∙◌, inl, inr, arith, ltb-true, ltb-false}
use Rattle.tables.specs.Tests.{cond_pred}
use Rattle.block.specs.Block.{code, first, second}
use Rattle.allocate.specs.declared.Frame.{Frame}
use Rattle.allocate.specs.declared.Reads.{Reads}
use Rattle.allocate.specs.Layout.{slot_at, canonical_at, task_at, home_at}
use Rattle.allocate.specs.Tasks.{Lent, value_of, canonical_of, compute_reads, reads_of, home_of}

-- a task's reads are nodes
pub record TaskFits (frame : Frame) (l : Lent) (task : ℕ) : Type 0 where
  pub nodes : 3 * frame.nodes ≤ length l.nodes
  pub updates : frame.states ≤ length l.updates
  pub stores : frame.delays ≤ length l.stores
  pub lhs : task < frame.nodes → first l.nodes task < frame.nodes
  pub rhs : task < frame.nodes → code l.nodes task < 11 → second l.nodes task < frame.nodes
  pub value : frame.nodes ≤ task → value_of frame l.updates l.stores l.output task < frame.nodes

-- the tasks of a phase, the first nodes of the sources, and hoisted values' own slots
pub record Planned (frame : Frame) (l : Lent) (count : ℕ) (work : List ℕ) : Type 0 where
  pub canonical : (i : ℕ) → i < frame.nodes → canonical_of frame work i < frame.nodes
  pub homes : (memory : ℕ) → memory ≤ frame.states + frame.delays → home_of frame work memory ≤ frame.nodes
  pub few : count ≤ 2 * frame.nodes + frame.states + frame.delays + 1
  pub tasks : (p : ℕ) → p < count → TaskFits frame l (get_or work (task_at frame p) 0)
  pub inside : (p : ℕ) → p < count → get_or work (task_at frame p) 0 ≤ 2 * frame.nodes + frame.states + frame.delays
  pub keeps : (p i : ℕ) → p < count → i < frame.nodes → get_or work (task_at frame p) 0 ≡ frame.nodes + i → get_or work (slot_at frame i) 0 ≤ frame.fixed

-- what a task reads are nodes
pub reads_below : (frame : Frame) (l : Lent) (work : List ℕ) (task : ℕ) → TaskFits frame l task
    → ((i : ℕ) → i < frame.nodes → canonical_of frame work i < frame.nodes)
    → ((reads_of frame l work task).first < frame.nodes) × ((reads_of frame l work task).second < frame.nodes)
unfolding reads_of compute_reads
reads_below frame l work task fits canonical =
    let P : Reads → Type 0 = λ (r : Reads). (r.first < frame.nodes) × (r.second < frame.nodes) in
    cond_pred P (ltb task frame.nodes)
    (λ e.
    let h = ltb-true task frame.nodes e in
    let a = canonical (first l.nodes task) (fits.lhs h) in
    cond_pred P (ltb (code l.nodes task) 11)
    (λ q. (a, canonical (second l.nodes task) (fits.rhs h (ltb-true (code l.nodes task) 11 q))))
    (λ _. (a, a)))
    (λ e.
    let v = canonical (value_of frame l.updates l.stores l.output task) (fits.value (ltb-false task frame.nodes e)) in
    (v, v))

-- ---- the plan's regions stay as they are

module _ (frame : Frame) (old new : List ℕ) (same : (j : ℕ) → (j < 5 * frame.nodes) ⊎ (10 * frame.nodes ≤ j) → get_or new j 0 ≡ get_or old j 0) where
  -- the first nodes of the sources
  pub home_same : (memory : ℕ) → home_of frame new memory ≡ home_of frame old memory
  unfolding home_of
  home_same memory = same (home_at frame (cond (ltb memory (frame.states + frame.delays)) (258 + memory) 0)) (inr (omega arith))

  -- the tasks
  pub task_same : (p : ℕ) → get_or new (task_at frame p) 0 ≡ get_or old (task_at frame p) 0
  task_same p = same (task_at frame p) (inr (omega arith))

  -- all of it
  pub planned_same : (l : Lent) (count : ℕ) → Planned frame l count old → Planned frame l count new
  planned_same l count planned =
      record {
        canonical = λ i h. rw (same (canonical_at frame i) (inl (omega arith))) (planned.canonical i h);
        homes = λ memory h. rw (home_same memory) (planned.homes memory h);
        few = planned.few;
        tasks = λ p h. rw (task_same p) (planned.tasks p h);
        inside = λ p h. rw (task_same p) (planned.inside p h);
        keeps = λ p i h k e. rw (same (slot_at frame i) (inl (omega arith))) (planned.keeps p i h k (sym (task_same p) ∙ e));
      }

-- fewer tasks
pub planned_fewer : (frame : Frame) (l : Lent) (few count : ℕ) (work : List ℕ) → few ≤ count → Planned frame l count work → Planned frame l few work
planned_fewer frame l few count work h planned =
    record {
      canonical = planned.canonical;
      homes = planned.homes;
      few = omega (arith, planned.few);
      tasks = λ p q. planned.tasks p (omega arith);
      inside = λ p q. planned.inside p (omega arith);
      keeps = λ p i q. planned.keeps p i (omega arith);
    }

-- what a task asks for once its operands are held
pub record Asks (frame : Frame) (nodes work : List ℕ) (r : Reads) (lhs rhs task position : ℕ) : Type 0 where
  pub below : (r.first < frame.nodes) × (r.second < frame.nodes)
  pub registers : (lhs < 16) × (rhs < 16)
  pub inside : task ≤ 2 * frame.nodes + frame.states + frame.delays
  pub place : position ≤ 2 * frame.nodes + frame.states + frame.delays
  pub wide : 3 * frame.nodes ≤ length nodes
  pub homes : (memory : ℕ) → memory ≤ frame.states + frame.delays → home_of frame work memory ≤ frame.nodes
  pub keeps : (i : ℕ) → i < frame.nodes → task ≡ frame.nodes + i → get_or work (slot_at frame i) 0 ≤ frame.fixed
