-- Laws of steps: what a step that may run needs and leaves, that it counts one, and that the tables keep their lengths. Assumes nothing.
use Rattle.std.specs.Prelude.{◌≡◌, true, List, length, Option, Some, None}
use Rattle.std.proofs.Math.Path.{refl, sym, ap}
use Rattle.std.proofs.Common.{◌∙◌, subst, add-zero, add_assoc, add-one, arith, length-set, ltb-true}
use Prim.Native.Nat.{ℕ, zero, suc, ◌+◌, ◌<◌}
use Rattle.tables.specs.Tests.{◌&◌, &_both, true_false}
use Rattle.tables.specs.Loops.{every, every_true}
use Rattle.kernel.specs.declared.Step.{Step}
use Rattle.kernel.specs.declared.Step.TheVariants.{Load, Compute, Spill, Reload, StoreState, StoreDelay, StoreOutput, StoreControl}
use Rattle.kernel.specs.declared.Phase.{Phase}
use Rattle.kernel.specs.declared.Kernel.{Kernel}
use Rattle.kernel.specs.Steps.{step_at, allowed_in}
use Rattle.kernel.specs.declared.Sizes.{Sizes}
use Rattle.kernel.specs.Lists.{sizes, index_inside, computes_formed, step_may_run, words_may_run, may_run, phase_may_run}
use Rattle.memory.specs.Lines.{store_delay, store_state}
use Rattle.memory.specs.Fit.{Fit, line_lengths}
use Rattle.memory.specs.LineLaws.{fit_store, fit_state}
use Rattle.memory.specs.Signals.{Given}
use Rattle.machine.specs.Machine.{Machine, Program, act, act_words, steps_to}
use Rattle.machine.specs.Ready.{Ready, MayRun, Listed, Lengths, lengths_of, counting}
use Rattle.machine.specs.StepLaws.{Going}

-- ---- what a step that may run has passed
module _ (n : Sizes) (instructions : List ℕ) (phase : Phase) (step : Step) where
  pub may_allowed : step_may_run n instructions phase step ≡ true → allowed_in phase step ≡ true
  unfolding step_may_run
  may_allowed e = (&_both (allowed_in phase step) (index_inside n step & computes_formed instructions step) e).0

  pub may_inside : step_may_run n instructions phase step ≡ true → index_inside n step ≡ true
  unfolding step_may_run
  may_inside e =
      (&_both (index_inside n step) (computes_formed instructions step) (&_both (allowed_in phase step) (index_inside n step & computes_formed instructions step) e).1).0

  pub may_computes : step_may_run n instructions phase step ≡ true → computes_formed instructions step ≡ true
  unfolding step_may_run
  may_computes e =
      (&_both (index_inside n step) (computes_formed instructions step) (&_both (allowed_in phase step) (index_inside n step & computes_formed instructions step) e).1).1

-- ---- a step leaves the tables as long as they were
pub act_kept : (p : Program) (x : Given) (m : Machine) (step : Step) → lengths_of (act p x m step) ≡ lengths_of m
unfolding store_delay store_state
act_kept p x m (Load source r) = refl
act_kept p x m (Compute i) = refl
act_kept p x m (Spill slot r) = simp length-set
act_kept p x m (Reload slot r) = refl
act_kept p x m (StoreState state r) = simp length-set
act_kept p x m (StoreDelay delay r) = simp length-set
act_kept p x m (StoreOutput r) = refl
act_kept p x m (StoreControl slot r) = simp length-set

-- .. and the delay lines fitting
pub act_fits : (p : Program) (x : Given) (m : Machine) (n : Sizes) (step : Step) → n.delays ≡ length m.memories.cursors → index_inside n step ≡ true
    → Fit p.lengths m.memories.area m.memories.cursors
    → Fit p.lengths (act p x m step).memories.area (act p x m step).memories.cursors
act_fits p x m n (Load source r) d h f = f
act_fits p x m n (Compute i) d h f = f
act_fits p x m n (Spill slot r) d h f = f
act_fits p x m n (Reload slot r) d h f = f
act_fits p x m n (StoreState state r) d h f = fit_state p.lengths m.memories state _ f
act_fits p x m n (StoreDelay delay r) d h f =
    let l = ltb-true delay n.delays h in
    fit_store p.lengths m.memories delay _ f (omega arith)
act_fits p x m n (StoreOutput r) d h f = f
act_fits p x m n (StoreControl slot r) d h f = f

-- a step executes nothing besides itself
pub act_executed : (p : Program) (x : Given) (m : Machine) (step : Step) → (act p x m step).executed ≡ m.executed
act_executed p x m (Load source r) = refl
act_executed p x m (Compute i) = refl
act_executed p x m (Spill slot r) = refl
act_executed p x m (Reload slot r) = refl
act_executed p x m (StoreState state r) = refl
act_executed p x m (StoreDelay delay r) = refl
act_executed p x m (StoreOutput r) = refl
act_executed p x m (StoreControl slot r) = refl

-- ---- the same of words that may run
module _ (p : Program) (x : Given) (m : Machine) (n : Sizes) (instructions : List ℕ) (phase : Phase) where
  pub words_executed : (w : Option Step) → words_may_run n instructions phase w ≡ true → (act_words p x m w).executed ≡ m.executed + 1
  unfolding act_words
  words_executed (Some step) h = ap (λ (k : ℕ). k + 1) (act_executed p x m step)
  words_executed None h = true_false (sym h)

  pub words_kept : (w : Option Step) → lengths_of (act_words p x m w) ≡ lengths_of m
  unfolding act_words
  words_kept (Some step) = act_kept p x m step
  words_kept None = refl

  pub words_fit : (w : Option Step) → n.delays ≡ length m.memories.cursors → words_may_run n instructions phase w ≡ true
      → Fit p.lengths m.memories.area m.memories.cursors
      → Fit p.lengths (act_words p x m w).memories.area (act_words p x m w).memories.cursors
  unfolding act_words
  words_fit (Some step) d h f = act_fits p x m n step d (may_inside n instructions phase step h) f
  words_fit None d h f = f

-- ---- the steps of a phase
pub steps_next : (p : Program) (steps : List ℕ) (x : Given) (m : Machine) (first i : ℕ)
    → steps_to p steps x m first (i + 1) ≡ act_words p x (steps_to p steps x m first i) (step_at steps (first + i))
unfolding steps_to
steps_next p steps x m first i = rw add-one

pub phase_words : (n : Sizes) (steps instructions : List ℕ) (phase : Phase) (first i : ℕ) → phase_may_run n steps instructions phase first i ≡ true
    → words_may_run n instructions phase (step_at steps (first + i)) ≡ true
unfolding phase_may_run may_run
phase_words n steps instructions phase first i h = h

module _ (p : Program) (x : Given) (n : Sizes) (steps instructions : List ℕ) (phase : Phase) (first : ℕ) where
  -- so many steps are executed
  pub steps_executed : (m : Machine) (count : ℕ) → every (phase_may_run n steps instructions phase first) count ≡ true
      → (steps_to p steps x m first count).executed ≡ m.executed + count
  unfolding steps_to every
  steps_executed m zero h = sym (add-zero m.executed)
  steps_executed m (suc count) h =
      let a = &_both (every (phase_may_run n steps instructions phase first) count) (phase_may_run n steps instructions phase first count) h in
      let e = steps_executed m count a.0 in
      let w = words_executed p x (steps_to p steps x m first count) n instructions phase (step_at steps (first + count)) (phase_words n steps instructions phase first count a.1) in
      w ∙ (ap (λ (k : ℕ). k + 1) e ∙ omega arith)

  -- the tables keep their lengths
  pub steps_kept : (m : Machine) (count : ℕ) → lengths_of (steps_to p steps x m first count) ≡ lengths_of m
  unfolding steps_to
  steps_kept m zero = refl
  steps_kept m (suc count) =
      let e = steps_kept m count in
      words_kept p x (steps_to p steps x m first count) n instructions phase (step_at steps (first + count)) ∙ e

  -- and the lines fit
  pub steps_fit : (m : Machine) (count : ℕ) → n.delays ≡ length m.memories.cursors → every (phase_may_run n steps instructions phase first) count ≡ true
      → Fit p.lengths m.memories.area m.memories.cursors
      → Fit p.lengths (steps_to p steps x m first count).memories.area (steps_to p steps x m first count).memories.cursors
  unfolding steps_to every
  steps_fit m zero d h f = f
  steps_fit m (suc count) d h f =
      let a = &_both (every (phase_may_run n steps instructions phase first) count) (phase_may_run n steps instructions phase first count) h in
      let g = steps_fit m count d a.0 f in
      let l = ap (λ (y : Lengths). y.cursors) (steps_kept m count) in
      words_fit p x (steps_to p steps x m first count) n instructions phase (step_at steps (first + count)) (d ∙ sym l) (phase_words n steps instructions phase first count a.1) g

-- ---- what the tables hold, once more after steps
pub ready_kept : (k : Kernel) (instructions delays bases : List ℕ) (m₀ m : Machine) → lengths_of m ≡ lengths_of m₀
    → Fit (line_lengths delays) m.memories.area m.memories.cursors
    → Ready k instructions delays bases m₀.control m₀.spills m₀.memories.area m₀.memories.cursors
    → Ready k instructions delays bases m.control m.spills m.memories.area m.memories.cursors
ready_kept k instructions delays bases m₀ m e f r =
    let c = ap (λ (y : Lengths). y.control) e in
    let s = ap (λ (y : Lengths). y.spills) e in
    let rc = r.slotted.slots in let rs = r.slotted.spilled in
    record {
      code = r.code;
      slotted = record { slots = omega arith; spilled = omega arith };
      lines = record { fit = f; based = r.lines.based };
    }

-- ---- the loop over the steps of a phase: what it keeps after i steps
pub going_start : (p : Program) (steps : List ℕ) (x : Given) (first : ℕ) (m : Machine) → Fit p.lengths m.memories.area m.memories.cursors
    → Going p steps x first m m 0
unfolding steps_to
going_start p steps x first m f = record { so_far = λ n. ap (counting m) (add-zero n); kept = refl; fit = f }

pub going_next : (p : Program) (steps : List ℕ) (x : Given) (first : ℕ) (m₀ m m' : Machine) (i : ℕ) (n : Sizes) (instructions : List ℕ) (phase : Phase)
    → Going p steps x first m₀ m i → n.delays ≡ length m.memories.cursors
    → words_may_run n instructions phase (step_at steps (first + i)) ≡ true
    → ((e : ℕ) → counting m' (e + 1) ≡ act_words p x (counting m e) (step_at steps (first + i)))
    → Going p steps x first m₀ m' (i + 1)
going_next p steps x first m₀ m m' i n instructions phase g d h s =
    let w = step_at steps (first + i) in
    record {
      so_far =
          λ e. ap (counting m') (sym (add_assoc e i 1))
          ∙ (s (e + i) ∙ (ap (λ (y : Machine). act_words p x y w) (g.so_far e) ∙ sym (steps_next p steps x (counting m₀ e) first i)));
      kept = ap lengths_of (s 0) ∙ (words_kept p x (counting m 0) n instructions phase w ∙ g.kept);
      fit =
          subst (λ (y : Machine). Fit p.lengths y.memories.area y.memories.cursors) (sym (s 0))
          (words_fit p x (counting m 0) n instructions phase w d h g.fit);
    }

-- ---- what a turn of that loop needs, from what the loop began with
module _ {p : Program} {steps : List ℕ} {x : Given} {first : ℕ} {m₀ m : Machine} {i : ℕ} (g : Going p steps x first m₀ m i) where
  pub going_ready : {k : Kernel} {instructions delays bases : List ℕ} → p.lengths ≡ line_lengths delays
      → Ready k instructions delays bases m₀.control m₀.spills m₀.memories.area m₀.memories.cursors
      → Ready k instructions delays bases m.control m.spills m.memories.area m.memories.cursors
  going_ready {k} {instructions} {delays} {bases} e r =
      ready_kept k instructions delays bases m₀ m g.kept (subst (λ (l : List ℕ). Fit l m.memories.area m.memories.cursors) e g.fit) r

  pub going_may : {q count : ℕ} {k : Kernel} {instructions : List ℕ} {phase : Phase}
      → Listed q (length m₀.memories.states) (length m₀.memories.cursors) k steps instructions phase first count → i < count
      → MayRun q (length m.memories.states) (length m.memories.cursors) k instructions phase (step_at steps (first + i))
  going_may {q} {count} {k} {instructions} {phase} l h =
      let n = sizes q (length m₀.memories.states) (length m₀.memories.cursors) k in
      let s : length m.memories.states ≡ length m₀.memories.states = ap (λ (y : Lengths). y.states) g.kept in
      let d : length m.memories.cursors ≡ length m₀.memories.cursors = ap (λ (y : Lengths). y.cursors) g.kept in
      rw (s, d) (record { may = phase_words n steps instructions phase first i (every_true (phase_may_run n steps instructions phase first) count l.each i h) })

  pub going_turn : {q : ℕ} {k : Kernel} {instructions : List ℕ} {phase : Phase} (m' : Machine)
      → MayRun q (length m.memories.states) (length m.memories.cursors) k instructions phase (step_at steps (first + i))
      → ((n : ℕ) → counting m' (n + 1) ≡ act_words p x (counting m n) (step_at steps (first + i))) → Going p steps x first m₀ m' (i + 1)
  going_turn {q} {k} {instructions} {phase} m' may s =
      going_next p steps x first m₀ m m' i (sizes q (length m.memories.states) (length m.memories.cursors) k) instructions phase g refl may.may s
