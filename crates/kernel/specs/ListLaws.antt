-- What it means that a list may run, step by step, and the ways out of the functions that test it. Assumes nothing.
use Rattle.std.specs.Prelude.{◌≡◌, refl, true, false, not, List, ℕ, ◌+◌, ◌*◌, ◌≤◌, ◌<◌, eqb, length, Option, Some, None}
use Rattle.std.proofs.Common.{sym, ◌∙◌, ltb-true, ne_eqb}
use Rattle.std.proofs.Math.Path.{ap}
use native.Mathlib.Omega.{arith}
use Rattle.tables.specs.Loops.{every, every_true, every_all}
use Rattle.tables.specs.Tests.{&_both, &_true, &_left, &_right, &_next, true_false, differ_of, differs}
use Rattle.kernel.specs.declared.Source.{Source}
use Rattle.kernel.specs.declared.Step.{Step}
use Rattle.kernel.specs.declared.Step.TheVariants.{Load, Compute, Spill, Reload, StoreState, StoreDelay, StoreOutput, StoreControl}
use Rattle.kernel.specs.declared.Instruction.{Instruction}
use Rattle.kernel.specs.declared.Phase.{Phase}
use Rattle.kernel.specs.declared.Phase.TheVariants.{Control, Sample}
use Rattle.kernel.specs.declared.Kernel.{Kernel}
use Rattle.kernel.specs.Steps.{step_at, allowed_in}
use Rattle.kernel.specs.Instructions.{instruction_at}
use Rattle.kernel.specs.Lists.{Sizes, sizes, source_inside, index_inside, is_formed, computes_formed, step_may_run, words_may_run, may_run, phase_may_run, list_may_run}

-- ---- the ways out of the tests

module _ (n : Sizes) (instructions : List ℕ) (phase : Phase) (step : Step) where
  -- the phase bars the step
  pub step_barred : allowed_in phase step ≡ false → step_may_run n instructions phase step ≡ false
  unfolding step_may_run
  step_barred e = &_left _ _ e

  -- the index is outside
  pub step_outside : index_inside n step ≡ false → step_may_run n instructions phase step ≡ false
  unfolding step_may_run
  step_outside e = &_right (allowed_in phase step) _ (&_left _ _ e)

  -- else what it computes decides
  pub step_decided : allowed_in phase step ≡ true → index_inside n step ≡ true → step_may_run n instructions phase step ≡ computes_formed instructions step
  unfolding step_may_run
  step_decided a i = &_next _ _ a ∙ &_next _ _ i

-- step i of a table, by its words
module _ (n : Sizes) (steps instructions : List ℕ) (phase : Phase) (i : ℕ) where
  pub malformed_barred : step_at steps i ≡ None → may_run n steps instructions phase i ≡ false
  unfolding may_run
  malformed_barred e = ap (words_may_run n instructions phase) e

  pub formed_decided : (step : Step) → step_at steps i ≡ Some step → may_run n steps instructions phase i ≡ step_may_run n instructions phase step
  unfolding may_run
  formed_decided step e = ap (words_may_run n instructions phase) e

-- a computed instruction's two words stand in its table
pub computes_in : (instructions : List ℕ) (parameters states delays : ℕ) (k : Kernel) (step : Step) → 2 * k.instructions ≤ length instructions
    → index_inside (sizes parameters states delays k) step ≡ true → (i : ℕ) → step ≡ Compute i → 2 * i + 1 < length instructions
computes_in instructions parameters states delays k step h inside i e =
    let l : i < k.instructions = ltb-true i k.instructions (rw e at inside) in
    omega arith

module _ (n : Sizes) (steps instructions : List ℕ) (k : Kernel) where
  -- no sample steps
  pub list_empty : k.sample ≡ 0 → list_may_run n steps instructions k ≡ false
  unfolding list_may_run
  list_empty e = &_left _ _ (rw e)

  -- a control step may not run
  pub list_barred : every (phase_may_run n steps instructions Control 0) k.control ≡ false → list_may_run n steps instructions k ≡ false
  unfolding list_may_run
  list_barred e = &_right (not (eqb k.sample 0)) _ (&_left _ _ e)

  -- else the sample steps decide
  pub list_decided : (k.sample ≡ 0 → ⊥) → every (phase_may_run n steps instructions Control 0) k.control ≡ true
      → list_may_run n steps instructions k ≡ every (phase_may_run n steps instructions Sample k.control) k.sample
  unfolding list_may_run
  list_decided z e = &_next _ _ (rw (ne_eqb k.sample 0 z)) ∙ &_next _ _ e

-- ---- what a list that may run says of its steps

-- words may run in a phase: they are a step that the phase allows, with its index inside, and with a well formed instruction where it computes
pub record MayRun (n : Sizes) (instructions : List ℕ) (phase : Phase) (words : Option Step) : Type 0 where
  pub step : Step
  pub formed : words ≡ Some step
  pub allowed : allowed_in phase step ≡ true
  pub inside : index_inside n step ≡ true
  pub computes : computes_formed instructions step ≡ true

module _ (n : Sizes) (instructions : List ℕ) (phase : Phase) where
  pub step_may_run_lem : (step : Step) → step_may_run n instructions phase step ≡ true → MayRun n instructions phase (Some step)
  unfolding step_may_run
  step_may_run_lem step e =
      let (a, r) = &_both (allowed_in phase step) _ e in
      let (i, f) = &_both (index_inside n step) _ r in
      record { step = step; formed = refl; allowed = a; inside = i; computes = f }

  pub words_may_run_lem : (words : Option Step) → words_may_run n instructions phase words ≡ true → MayRun n instructions phase words
  words_may_run_lem (Some step) e = step_may_run_lem step e
  words_may_run_lem None e = true_false (sym e)

  -- and back
  pub may_run_words : (words : Option Step) → MayRun n instructions phase words → words_may_run n instructions phase words ≡ true
  unfolding step_may_run
  may_run_words words m = rw m.formed (&_true _ _ m.allowed (&_true _ _ m.inside m.computes))

-- a list may run: there is a sample step, and each step of the two phases may run
pub record ListMayRun (n : Sizes) (steps instructions : List ℕ) (k : Kernel) : Type 0 where
  pub some_sample : 0 < k.sample
  pub control_step : (i : ℕ) → i < k.control → MayRun n instructions Control (step_at steps i)
  pub sample_step : (i : ℕ) → i < k.sample → MayRun n instructions Sample (step_at steps (k.control + i))

module _ (n : Sizes) (steps instructions : List ℕ) (k : Kernel) where
  -- the control phase starts where the table does
  control_first : (i : ℕ) → phase_may_run n steps instructions Control 0 i ≡ words_may_run n instructions Control (step_at steps i)
  unfolding phase_may_run may_run
  control_first i = let z : 0 + i ≡ i = omega arith in rw z

  pub list_may_run_lem : list_may_run n steps instructions k ≡ true → ListMayRun n steps instructions k
  unfolding list_may_run phase_may_run may_run
  list_may_run_lem e =
      let (z, r) = &_both (not (eqb k.sample 0)) _ e in
      let (p, q) = &_both (every (phase_may_run n steps instructions Control 0) k.control) _ r in
      let s : k.sample ≡ 0 → ⊥ = differ_of k.sample 0 z in
      record {
        some_sample = omega arith;
        control_step = λ i h. words_may_run_lem n instructions Control _ (sym (control_first i) ∙ every_true _ k.control p i h);
        sample_step = λ i h. words_may_run_lem n instructions Sample _ (every_true _ k.sample q i h);
      }

  -- and back
  pub may_run_list : ListMayRun n steps instructions k → list_may_run n steps instructions k ≡ true
  unfolding list_may_run phase_may_run may_run
  may_run_list m =
      &_true _ _ (differs k.sample 0 (λ e. let l = m.some_sample in omega arith))
      (&_true _ _
      (every_all (phase_may_run n steps instructions Control 0) k.control (λ i h. control_first i ∙ may_run_words n instructions Control _ (m.control_step i h)))
      (every_all (phase_may_run n steps instructions Sample k.control) k.sample (λ i h. may_run_words n instructions Sample _ (m.sample_step i h))))

-- ---- facts by constructor: at a known step these compute to the bound that its index has

abbrev pub SourceInside : Sizes → Source → Type 0
SourceInside n Source.Audio = Unit {0}
SourceInside n Source.Network = Unit {0}
SourceInside n (Source.Parameter index) = index < n.parameters
SourceInside n (Source.State index) = index < n.states
SourceInside n (Source.Delay index) = index < n.delays
SourceInside n (Source.Control slot) = slot < n.control_slots

abbrev pub Inside : Sizes → Step → Type 0
Inside n (Load source register) = SourceInside n source
Inside n (Compute instruction) = instruction < n.instructions
Inside n (Spill slot register) = slot < n.spill_slots
Inside n (Reload slot register) = slot < n.spill_slots
Inside n (StoreState state register) = state < n.states
Inside n (StoreDelay delay register) = delay < n.delays
Inside n (StoreOutput register) = Unit {0}
Inside n (StoreControl slot register) = slot < n.control_slots

pub source_is_inside : (n : Sizes) (source : Source) → source_inside n source ≡ true → SourceInside n source
source_is_inside n Source.Audio e = tt
source_is_inside n Source.Network e = tt
source_is_inside n (Source.Parameter index) e = ltb-true _ _ e
source_is_inside n (Source.State index) e = ltb-true _ _ e
source_is_inside n (Source.Delay index) e = ltb-true _ _ e
source_is_inside n (Source.Control slot) e = ltb-true _ _ e

pub is_inside : (n : Sizes) (step : Step) → index_inside n step ≡ true → Inside n step
is_inside n (Load source register) e = source_is_inside n source e
is_inside n (Compute instruction) e = ltb-true _ _ e
is_inside n (Spill slot register) e = ltb-true _ _ e
is_inside n (Reload slot register) e = ltb-true _ _ e
is_inside n (StoreState state register) e = ltb-true _ _ e
is_inside n (StoreDelay delay register) e = ltb-true _ _ e
is_inside n (StoreOutput register) e = tt
is_inside n (StoreControl slot register) e = ltb-true _ _ e

-- the instruction of words that are well formed
pub formed_instruction : (words : Option Instruction) → is_formed words ≡ true → (instruction : Instruction) × (words ≡ Some instruction)
formed_instruction (Some instruction) e = (instruction, refl)
formed_instruction None e = true_false (sym e)

module _ {n : Sizes} {instructions : List ℕ} {phase : Phase} {words : Option Step} (m : MayRun n instructions phase words) where
  -- the step that these words are
  pub step_of : (step : Step) → words ≡ Some step → m.step ≡ step
  step_of step e = let f = m.formed in cc

  -- .. its index is inside: of `StoreDelay delay register` that delay < n.delays
  pub inside_of : (step : Step) → words ≡ Some step → Inside n step
  inside_of step e = is_inside n step (rw (step_of step e) at m.inside)

  -- .. its phase allows it
  pub allowed_of : (step : Step) → words ≡ Some step → allowed_in phase step ≡ true
  allowed_of step e = rw (step_of step e) at m.allowed

  -- .. what it computes is an instruction
  pub instruction_of : (i : ℕ) → words ≡ Some (Compute i)
      → (instruction : Instruction) × (instruction_at instructions i ≡ Some instruction)
  instruction_of i e = formed_instruction (instruction_at instructions i) (rw (step_of (Compute i) e) at m.computes)
