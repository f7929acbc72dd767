-- What the functions that name a step or an instruction without testing its words have to show, and what their callers know of words that are one.
-- Assumes nothing.
use Rattle.std.specs.Prelude.{◌≡◌, refl, Bool, true, false, cond, Option, Some, None}
use Rattle.std.proofs.Common.{sym, ap}
use Rattle.kernel.specs.declared.Step.{Step}
use Rattle.kernel.specs.declared.Instruction.{Instruction}
use Rattle.kernel.specs.Steps.{step_or}
use Rattle.kernel.specs.Instructions.{instruction_or}
use Rattle.kernel.specs.Lists.{is_formed}
use Rattle.tables.specs.Tests.{true_false}

-- whatever is tested, nothing else than this step comes out
pub step_if : (b : Bool) (step : Step) → step ≡ step_or step (cond b (Some step) None)
step_if true step = refl
step_if false step = refl

pub instruction_if : (b : Bool) (i : Instruction) → i ≡ instruction_or i (cond b (Some i) None)
instruction_if true i = refl
instruction_if false i = refl

pub instruction_last : (a b : Bool) (i : Instruction)
    → i ≡ instruction_or i (cond a (cond b (Some i) None) None)
instruction_last true b i = instruction_if b i
instruction_last false b i = refl

-- words that are a step are the one that was named
pub step_formed : (w : Option Step) (step : Step) → (w ≡ None → ⊥) → step ≡ step_or step w → w ≡ Some step
step_formed (Some s) step bar e = ap Some (sym e)
step_formed None step bar e = absurd (bar refl)

pub instruction_formed : (w : Option Instruction) (i : Instruction) → is_formed w ≡ true → i ≡ instruction_or i w → w ≡ Some i
instruction_formed (Some j) i h e = ap Some (sym e)
instruction_formed None i h e = true_false (sym h)
