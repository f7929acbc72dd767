-- Laws of samples: what a sample leaves, what the loop over samples keeps, and that control plus n times sample steps are executed. Assumes nothing.
use Rattle.std.specs.Prelude.{◌≡◌, true, List, [], ℕ, zero, suc, ◌+◌, ◌*◌, get_or, set, replicate}
use Rattle.std.proofs.Math.Path.{refl, ap}
use Rattle.std.proofs.Common.{sym, ◌∙◌, subst, suc-mul, add_assoc, zero-add, add-one, arith, length-set}
use Rattle.std.proofs.Math.ListN.{length}
use Rattle.std.proofs.lemmas.List.{length-replicate}
use Rattle.tables.specs.Tests.{&_both}
use Rattle.tables.specs.Loops.{every}
use Rattle.kernel.specs.declared.Kernel.{Kernel}
use Rattle.kernel.specs.declared.Phase.TheVariants.{Control, Sample}
use Rattle.kernel.specs.declared.Sizes.{Sizes}
use Rattle.kernel.specs.Lists.{sizes, phase_may_run, list_may_run}
use Rattle.memory.specs.Lines.{Memories, memories}
use Rattle.memory.specs.Fit.{Fit, line_lengths, line_bases}
use Rattle.memory.specs.Signals.{given, network_word, given_by, rendered}
use Rattle.machine.specs.Machine.{Machine, machine, steps_to, with_output}
use Rattle.step_run.specs.Run.{Setup, program_of, no_output, cleared, control_done, sample_done, Running, running, emit, samples_to, run_for, Tables, tables, tables_of}
use Rattle.machine.specs.Ready.{Ready, Listed, Lengths, lengths_of}
use Rattle.step_run.specs.Ready.{Playable}
use Rattle.machine.proofs.StepLaws.{steps_executed, steps_kept, steps_fit, ready_kept}

-- ---- between samples the output word is of no account: the next sample begins without one
abbrev pub silent : Machine → ℕ → Machine
silent m n = machine m.registers m.control m.spills m.memories 0 n

abbrev pub hushed : Running → Running
hushed r = running (with_output r.machine 0) r.output

-- sample t, from the steps that were run for it
pub sample_ran : (u : Setup) (r c s : List ℕ) (m : Memories) (r' c' s' : List ℕ) (m' : Memories) (output : List ℕ) (t n first count heard word : ℕ)
    → first ≡ u.code.kernel.control → count ≡ u.code.kernel.sample → heard ≡ network_word u.network u.signals.network t
    → machine r' c' s' m' word (n + count)
    ≡ steps_to (program_of u) u.code.steps (given (get_or u.signals.input t 0) heard u.signals.parameters) (machine r c s m no_output n) first count
    → running (machine r' c' s' m' 0 (n + u.code.kernel.sample)) (set output t word) ≡ hushed (emit (sample_done u (machine r c s m 0 n) t) output t)
unfolding sample_done
sample_ran u r c s m r' c' s' m' output t n first count heard word a b d h =
    ap (λ (k : ℕ). running (machine r' c' s' m' 0 (n + k)) (set output t word)) (sym b)
    ∙ ap (λ (y : Machine). running (with_output y 0) (set output t y.output)) (h ∙ rw (a, b, d))

-- ---- a sample leaves the tables as long as they were and the lines fitting
module _ (u : Setup) (q s d : ℕ) (instructions : List ℕ) where
  pub sample_kept : (m : Machine) (t : ℕ) → lengths_of (sample_done u m t) ≡ lengths_of m
  unfolding sample_done
  sample_kept m t =
      steps_kept (program_of u) (given_by u.network u.signals t) (sizes q s d u.code.kernel) u.code.steps instructions Sample u.code.kernel.control
      (with_output m no_output) u.code.kernel.sample

  pub sample_fits : (m : Machine) (t : ℕ) → d ≡ length m.memories.cursors
      → Listed q s d u.code.kernel u.code.steps instructions Sample u.code.kernel.control u.code.kernel.sample
      → Fit u.lengths m.memories.area m.memories.cursors
      → Fit u.lengths (sample_done u m t).memories.area (sample_done u m t).memories.cursors
  unfolding sample_done
  sample_fits m t e l f =
      steps_fit (program_of u) (given_by u.network u.signals t) (sizes q s d u.code.kernel) u.code.steps instructions Sample u.code.kernel.control
      (with_output m no_output) u.code.kernel.sample e l.each f

-- ---- the loop over samples: what it keeps after t samples
pub record Playing (u : Setup) (m₀ m : Machine) (o₀ o : List ℕ) (t : ℕ) : Type 0 where
  pub so_far : (n : ℕ) → running (silent m (n + t * u.code.kernel.sample)) o ≡ hushed (samples_to u (running (silent m₀ n) o₀) t)
  pub kept : lengths_of m ≡ lengths_of m₀
  pub written : length o ≡ length o₀
  pub fit : Fit u.lengths m.memories.area m.memories.cursors

pub playing_start : (u : Setup) (m : Machine) (o : List ℕ) → Fit u.lengths m.memories.area m.memories.cursors → Playing u m m o o 0
unfolding samples_to
playing_start u m o f =
    record {
      so_far = λ n. let z : n + 0 * u.code.kernel.sample ≡ n = omega arith in ap (λ (k : ℕ). running (silent m k) o) z;
      kept = refl;
      written = refl;
      fit = f;
    }

more : (n t s : ℕ) → n + (t + 1) * s ≡ (n + t * s) + s
more n t s = rw (add-one, suc-mul) (sym (add_assoc n (t * s) s))

quiet_sample : (u : Setup) (m : Machine) (t : ℕ) → sample_done u (with_output m 0) t ≡ sample_done u m t
unfolding sample_done
quiet_sample u m t = refl

samples_next : (u : Setup) (r : Running) (t : ℕ)
    → hushed (emit (sample_done u (hushed (samples_to u r t)).machine t) (samples_to u r t).output t) ≡ hushed (samples_to u r (t + 1))
unfolding samples_to
samples_next u r t =
    rw add-one (ap (λ (y : Machine). hushed (emit y (samples_to u r t).output t)) (quiet_sample u (samples_to u r t).machine t))

module _ {u : Setup} {m₀ m : Machine} {o₀ o : List ℕ} {t : ℕ} (g : Playing u m₀ m o₀ o t) where
  pub playing_ready : {instructions delays bases : List ℕ} → u.lengths ≡ line_lengths delays
      → Ready u.code.kernel instructions delays bases m₀.control m₀.spills m₀.memories.area m₀.memories.cursors
      → Ready u.code.kernel instructions delays bases m.control m.spills m.memories.area m.memories.cursors
  playing_ready {instructions} {delays} {bases} e r =
      ready_kept u.code.kernel instructions delays bases m₀ m g.kept (subst (λ (l : List ℕ). Fit l m.memories.area m.memories.cursors) e g.fit) r

  pub playing_listed : {q : ℕ} {instructions : List ℕ}
      → Listed q (length m₀.memories.states) (length m₀.memories.cursors) u.code.kernel u.code.steps instructions Sample u.code.kernel.control u.code.kernel.sample
      → Listed q (length m.memories.states) (length m.memories.cursors) u.code.kernel u.code.steps instructions Sample u.code.kernel.control u.code.kernel.sample
  playing_listed l =
      let s : length m.memories.states ≡ length m₀.memories.states = ap (λ (y : Lengths). y.states) g.kept in
      let d : length m.memories.cursors ≡ length m₀.memories.cursors = ap (λ (y : Lengths). y.cursors) g.kept in
      rw (s, d) l

  pub playing_turn : {q : ℕ} {instructions : List ℕ} (m' : Machine) (o' : List ℕ)
      → Listed q (length m.memories.states) (length m.memories.cursors) u.code.kernel u.code.steps instructions Sample u.code.kernel.control u.code.kernel.sample
      → ((n : ℕ) → running (silent m' (n + u.code.kernel.sample)) o' ≡ hushed (emit (sample_done u (silent m n) t) o t)) → Playing u m₀ m' o₀ o' (t + 1)
  playing_turn {q} {instructions} m' o' l s =
      let d = length m.memories.cursors in
      let z : length (set o t (sample_done u (silent m 0) t).output) ≡ length o = simp length-set in
      record {
        so_far =
            λ n. ap (λ (k : ℕ). running (silent m' k) o') (more n t u.code.kernel.sample)
            ∙ (s (n + t * u.code.kernel.sample)
            ∙ (ap (λ (y : Running). hushed (emit (sample_done u y.machine t) y.output t)) (g.so_far n) ∙ samples_next u (running (silent m₀ n) o₀) t));
        kept =
            ap (λ (y : Running). lengths_of y.machine) (s 0)
            ∙ (sample_kept u q (length m.memories.states) d instructions (silent m 0) t ∙ g.kept);
        written = ap (λ (y : Running). length y.output) (s 0) ∙ (z ∙ g.written);
        fit =
            subst (λ (y : Running). Fit u.lengths y.machine.memories.area y.machine.memories.cursors) (sym (s 0))
            (sample_fits u q (length m.memories.states) d instructions (silent m 0) t refl l g.fit);
      }

-- ---- the output word that a run begins with is of no account
pub quiet_start : (u : Setup) (m : Machine) (o : List ℕ) (n : ℕ)
    → hushed (samples_to u (running (with_output m 0) o) n) ≡ hushed (samples_to u (running m o) n)
unfolding samples_to
quiet_start u m o zero = refl
quiet_start u m o (suc n) =
    let e = quiet_start u m o n in
    let f : Running → Running = λ (y : Running). hushed (emit (sample_done u y.machine n) y.output n) in
    let r = samples_to u (running (with_output m 0) o) n in
    let r' = samples_to u (running m o) n in
    ap (λ (y : Machine). hushed (emit y r.output n)) (sym (quiet_sample u r.machine n))
    ∙ (ap f e ∙ ap (λ (y : Machine). hushed (emit y r'.output n)) (quiet_sample u r'.machine n))

-- ---- the control phase, from cleared registers and slots
pub ready_cleared : (k : Kernel) (instructions delays bases control spills area cursors control' spills' : List ℕ) → control' ≡ replicate (length control) 0
    → spills' ≡ replicate (length spills) 0 → Ready k instructions delays bases control spills area cursors
    → Ready k instructions delays bases control' spills' area cursors
ready_cleared k instructions delays bases control spills area cursors control' spills' a b r =
    let c : length control' ≡ length control = ap length a ∙ length-replicate (length control) 0 in
    let s : length spills' ≡ length spills = ap length b ∙ length-replicate (length spills) 0 in
    let rc = r.slotted.slots in let rs = r.slotted.spilled in
    record { code = r.code; slotted = record { slots = omega arith; spilled = omega arith }; lines = r.lines }

pub start_ran : (u : Setup) (r c s : List ℕ) (m m' : Memories) (control spills : List ℕ) (controls spilled count word : ℕ) → count ≡ u.code.kernel.control
    → control ≡ replicate controls 0 → spills ≡ replicate spilled 0
    → machine r c s m' word (0 + count)
    ≡ steps_to (program_of u) u.code.steps (given 0 0 u.signals.parameters) (machine (replicate 16 0) control spills m no_output 0) 0 count
    → machine r c s m' 0 u.code.kernel.control ≡ with_output (control_done u (cleared controls spilled m)) 0
unfolding control_done
start_ran u r c s m m' control spills controls spilled count word a b d h =
    let e : machine r c s m' word (0 + count) ≡ control_done u (cleared controls spilled m) = h ∙ rw (a, b, d) in
    ap (λ (k : ℕ). machine r c s m' 0 k) (sym a ∙ sym (zero-add count)) ∙ ap (λ (y : Machine). with_output y 0) e

control_kept : (u : Setup) (q s d : ℕ) (instructions : List ℕ) (m : Machine) → lengths_of (control_done u m) ≡ lengths_of m
unfolding control_done
control_kept u q s d instructions m =
    steps_kept (program_of u) (given 0 0 u.signals.parameters) (sizes q s d u.code.kernel) u.code.steps instructions Control 0 m u.code.kernel.control

control_fits : (u : Setup) (q s d : ℕ) (instructions : List ℕ) (m : Machine) → d ≡ length m.memories.cursors
    → Listed q s d u.code.kernel u.code.steps instructions Control 0 u.code.kernel.control → Fit u.lengths m.memories.area m.memories.cursors
    → Fit u.lengths (control_done u m).memories.area (control_done u m).memories.cursors
unfolding control_done
control_fits u q s d instructions m e l f =
    steps_fit (program_of u) (given 0 0 u.signals.parameters) (sizes q s d u.code.kernel) u.code.steps instructions Control 0 m u.code.kernel.control e l.each f

cleared_lengths : (controls spilled : ℕ) (m : Memories) (control spills r : List ℕ) → controls ≡ length control → spilled ≡ length spills
    → lengths_of (cleared controls spilled m) ≡ lengths_of (machine r control spills m 0 0)
cleared_lengths controls spilled m control spills r a b = rw (length-replicate {A = ℕ} controls 0, length-replicate {A = ℕ} spilled 0, a, b)

-- ---- a run of samples, from the control phase on
module _ (u : Setup) (q count : ℕ) (instructions delays control spills held area cursors output : List ℕ) (same : u.lengths ≡ line_lengths delays)
    (l : Playable u.network count q (length held) u.code.kernel u.code.steps instructions delays control spills area cursors u.signals.input u.signals.network output)
    (r c s : List ℕ) (m : Memories)
    (e : machine r c s m 0 u.code.kernel.control ≡ with_output (control_done u (cleared (length control) (length spills) (memories held area cursors))) 0) where
  start : Machine
  start = machine r control spills (memories held area cursors) 0 0

  begun : Machine
  begun = machine r c s m 0 u.code.kernel.control

  begun_kept : lengths_of begun ≡ lengths_of start
  unfolding start begun
  begun_kept =
      ap lengths_of e
      ∙ (control_kept u q (length held) (length cursors) instructions (cleared (length control) (length spills) (memories held area cursors))
      ∙ cleared_lengths (length control) (length spills) (memories held area cursors) control spills r refl refl)

  begun_fits : Fit (line_lengths delays) m.area m.cursors
  begun_fits =
      subst (λ (y : List ℕ). Fit y m.area m.cursors) same
      (subst (λ (y : Machine). Fit u.lengths y.memories.area y.memories.cursors) (sym e)
      (control_fits u q (length held) (length cursors) instructions (cleared (length control) (length spills) (memories held area cursors)) refl l.first
      (subst (λ (y : List ℕ). Fit y area cursors) (sym same) l.ready.lines.fit)))

  pub play_ready : (bases : List ℕ) → bases ≡ line_bases delays → Ready u.code.kernel instructions delays bases c s m.area m.cursors
  unfolding start begun
  play_ready bases b = rw b (ready_kept u.code.kernel instructions delays (line_bases delays) start begun begun_kept begun_fits l.ready)

  pub play_listed : Listed q (length m.states) (length m.cursors) u.code.kernel u.code.steps instructions Sample u.code.kernel.control u.code.kernel.sample
  unfolding start begun
  play_listed =
      let a : length m.states ≡ length held = ap (λ (y : Lengths). y.states) begun_kept in
      let d : length m.cursors ≡ length cursors = ap (λ (y : Lengths). y.cursors) begun_kept in
      rw (a, d) l.then

pub play_ran : (u : Setup) (count n : ℕ) (control spills held area cursors output r c s r' c' s' o : List ℕ) (m m' : Memories)
    → machine r c s m 0 u.code.kernel.control ≡ with_output (control_done u (cleared (length control) (length spills) (memories held area cursors))) 0
    → running (machine r' c' s' m' 0 n) o ≡ hushed (samples_to u (running (machine r c s m 0 u.code.kernel.control) output) count)
    → tables [] c' s' (rendered o m') r' ≡ tables_of [] (run_for u (tables [] control spills (rendered output (memories held area cursors)) []) count)
unfolding run_for
play_ran u count n control spills held area cursors output r c s r' c' s' o m m' e h =
    ap (λ (y : Running). tables_of [] y)
    (h
    ∙ (ap (λ (y : Machine). hushed (samples_to u (running y output) count)) e
    ∙ quiet_start u (control_done u (cleared (length control) (length spills) (memories held area cursors))) output count))

-- ---- THE STEPS SPENT: "steps spent is that sum"
samples_executed : (u : Setup) (s : Sizes) (r : Running) (n : ℕ)
    → every (phase_may_run s u.code.steps u.code.instructions Sample u.code.kernel.control) u.code.kernel.sample ≡ true
    → (samples_to u r n).machine.executed ≡ r.machine.executed + n * u.code.kernel.sample
unfolding samples_to sample_done
samples_executed u s r zero h = let z : r.machine.executed + 0 * u.code.kernel.sample ≡ r.machine.executed = omega arith in sym z
samples_executed u s r (suc n) h =
    let before = samples_to u r n in
    let e = samples_executed u s r n h in
    let k =
    steps_executed (program_of u) (given_by u.network u.signals n) s u.code.steps u.code.instructions Sample u.code.kernel.control
    (with_output before.machine no_output) u.code.kernel.sample h in
    k ∙ (ap (λ (y : ℕ). y + u.code.kernel.sample) e ∙ rw suc-mul (add_assoc r.machine.executed (n * u.code.kernel.sample) u.code.kernel.sample))

-- a list that may run executes control + n × sample steps
pub spent_is : (u : Setup) (s : Sizes) (t : Tables) (n : ℕ) → list_may_run s u.code.steps u.code.instructions u.code.kernel ≡ true
    → (run_for u t n).machine.executed ≡ u.code.kernel.control + n * u.code.kernel.sample
unfolding run_for control_done list_may_run
spent_is u s t n h =
    let k = u.code.kernel in
    let phases = &_both _ _ (&_both _ _ h).1 in
    let start = cleared (length t.control) (length t.spills) t.rendered.memories in
    let done = steps_executed (program_of u) (given 0 0 u.signals.parameters) s u.code.steps u.code.instructions Control 0 start k.control phases.0 in
    samples_executed u s (running (control_done u start) t.rendered.output) n phases.1 ∙ ap (λ (y : ℕ). y + n * k.sample) (done ∙ zero-add k.control)
