-- What follows for a whole list from the checker's passing it: its control steps store nothing that a sample stores, and it may run, so answer 15 is not given.
-- Assumes nothing.
use Rattle.std.specs.Prelude.{◌≡◌, refl, Bool, true, false, ℕ, zero, suc, ◌<◌, length, replicate, Option, Some, None}
use Rattle.std.proofs.Common.{sym, subst, zero-add, arith}
use Rattle.tables.specs.Tests.{true_false}
use Rattle.answers.specs.Numbers.{accepted}
use Rattle.kernel.specs.declared.Instruction.{Instruction}
use Rattle.kernel.specs.declared.Step.{Step}
use Rattle.kernel.specs.declared.Step.TheVariants.{Load, Compute, Spill, Reload, StoreState, StoreDelay, StoreOutput, StoreControl}
use Rattle.kernel.specs.declared.Phase.{Phase}
use Rattle.kernel.specs.declared.Phase.TheVariants.{Control, Sample}
use Rattle.kernel.specs.Steps.{allowed_in}
use Rattle.kernel.specs.Instructions.{instruction_at}
use Rattle.kernel.specs.Lists.{list_may_run}
use Rattle.kernel.specs.ListLaws.{MayRun, may_run_list}
use Rattle.checker.specs.Walk.{Listing, sizes_of, Held, with_result, after_step, emptied, entered, walked, before_control, before_sample, walk_answer}
use Rattle.agree.specs.Passed.{WordsPassed, Passed, passed, walk_keeps}

-- nothing has been stored that a sample stores
abbrev pub Unstored : Listing → Held → Type 0
Unstored l h =
    (h.states_stored ≡ replicate (length l.graph.state_updates) 0)
    × (h.delays_stored ≡ replicate (length l.graph.delay_updates) 0)
    × (h.output_stored ≡ 0)

unstored_result : (l : Listing) (h : Held) (w : Option Instruction) (class : ℕ) → Unstored l h → Unstored l (with_result h w class)
unstored_result l h (Some i) class u = u
unstored_result l h None class u = u

-- a control step stores none of it
unstored_step : (l : Listing) (h : Held) (step : Step) → allowed_in Control step ≡ true → Unstored l h → Unstored l (after_step l h step)
unfolding after_step
unstored_step l h (Load source r) a u = u
unstored_step l h (Compute i) a u = unstored_result l h (instruction_at l.instructions i) _ u
unstored_step l h (Spill slot r) a u = u
unstored_step l h (Reload slot r) a u = u
unstored_step l h (StoreState state r) a u = true_false (sym a)
unstored_step l h (StoreDelay delay r) a u = true_false (sym a)
unstored_step l h (StoreOutput r) a u = true_false (sym a)
unstored_step l h (StoreControl slot r) a u = u

-- so after the control steps nothing is stored
pub unstored_control : (l : Listing) → Passed l → Unstored l (before_control l l.kernel.control)
unfolding emptied
unstored_control l p =
    walk_keeps {S = Unit {0}} l Control (emptied l) 0 l.kernel.control (λ k. false) p.control (λ k. tt) (λ u step. tt) (λ k step e. refl) (λ h u. Unstored l h)
    (λ last h u step q a. unstored_step l h step q.allowed a) (refl, refl, refl) l.kernel.control (omega arith)

-- ---- answer 15: every step that passes may run
may_run : (l : Listing) (phase : Phase) (last : Bool) (h : Held) (w : Option Step) → WordsPassed l phase last h w → MayRun (sizes_of l) l.instructions phase w
may_run l phase last h w p =
    record { step = p.step; formed = p.words; allowed = p.passed.allowed; inside = p.passed.inside; computes = p.passed.formed }

-- the output is stored, so there are sample steps
some_sample : (l : Listing) → Passed l → (n : ℕ) → n ≡ l.kernel.sample → 0 < n
unfolding walked entered
some_sample l p zero e = absurd (subst (λ (k : ℕ). (before_sample l k).output_stored ≡ 0 → ⊥) (sym e) p.output (unstored_control l p).2)
some_sample l p (suc n) e = omega arith

-- A LIST THAT PASSES MAY RUN: after it the step run does not give answer 15
pub passed_may_run : (l : Listing) → walk_answer l ≡ accepted tt → list_may_run (sizes_of l) l.steps l.instructions l.kernel ≡ true
passed_may_run l e =
    let p = passed l e in
    may_run_list _ _ _ _
    (record {
      some_sample = some_sample l p l.kernel.sample refl;
      control_step = λ i h. may_run l Control _ _ _ (rw (zero-add i) at (p.control i h));
      sample_step = λ i h. may_run l Sample _ _ _ (p.sample i h);
    })
