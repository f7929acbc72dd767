-- What the steps of a machine leave alone: how long its tables are, the control slots in a sample, the memories in the control phase. Assumes nothing.
use Rattle.std.specs.Prelude.{◌≡◌, refl, true, List, ℕ, suc, ◌+◌, length, Option, Some, None}
use Rattle.std.proofs.Common.{sym, ap, ◌∙◌, length-set}
use Rattle.tables.specs.Tests.{true_false}
use Rattle.kernel.specs.declared.Instruction.{Instruction}
use Rattle.kernel.specs.declared.Step.{Step}
use Rattle.kernel.specs.declared.Step.TheVariants.{Load, Compute, Spill, Reload, StoreState, StoreDelay, StoreOutput, StoreControl}
use Rattle.kernel.specs.declared.Phase.TheVariants.{Control, Sample}
use Rattle.kernel.specs.Steps.{step_at, allowed_in}
use Rattle.kernel.specs.Instructions.{instruction_at}
use Rattle.memory.specs.Signals.{Given}
use Rattle.machine.specs.Machine.{Machine, Program, act, act_words, execute_words, execute, counted, steps_to}
use Rattle.machine.specs.Ready.{Lengths}
use Rattle.machine.proofs.StepLaws.{act_kept}

-- the registers keep their number
result_long : (r : List ℕ) (w : Option Instruction) → length (execute_words r w) ≡ length r
unfolding execute
result_long r (Some i) = simp length-set
result_long r None = refl

registers_long : (p : Program) (x : Given) (m : Machine) (step : Step) → length (act p x m step).registers ≡ length m.registers
registers_long p x m (Load source r) = simp length-set
registers_long p x m (Compute i) = result_long m.registers (instruction_at p.instructions i)
registers_long p x m (Spill slot r) = refl
registers_long p x m (Reload slot r) = simp length-set
registers_long p x m (StoreState state r) = refl
registers_long p x m (StoreDelay delay r) = refl
registers_long p x m (StoreOutput r) = refl
registers_long p x m (StoreControl slot r) = refl

-- a sample step leaves the control slots
pub control_same : (p : Program) (x : Given) (m : Machine) (step : Step) → allowed_in Sample step ≡ true → (act p x m step).control ≡ m.control
control_same p x m (Load source r) a = refl
control_same p x m (Compute i) a = refl
control_same p x m (Spill slot r) a = refl
control_same p x m (Reload slot r) a = refl
control_same p x m (StoreState state r) a = refl
control_same p x m (StoreDelay delay r) a = refl
control_same p x m (StoreOutput r) a = refl
control_same p x m (StoreControl slot r) a = true_false (sym a)

-- a control step leaves the memories
pub memories_same : (p : Program) (x : Given) (m : Machine) (step : Step) → allowed_in Control step ≡ true → (act p x m step).memories ≡ m.memories
memories_same p x m (Load source r) a = refl
memories_same p x m (Compute i) a = refl
memories_same p x m (Spill slot r) a = refl
memories_same p x m (Reload slot r) a = refl
memories_same p x m (StoreState state r) a = true_false (sym a)
memories_same p x m (StoreDelay delay r) a = true_false (sym a)
memories_same p x m (StoreOutput r) a = refl
memories_same p x m (StoreControl slot r) a = refl

-- how many words a step machine's tables have, its memories' left out
abbrev pub Long : Machine → Machine → Type 0
Long m₀ m = (length m.registers ≡ length m₀.registers) × (length m.control ≡ length m₀.control) × (length m.spills ≡ length m₀.spills)

pub long_step : (p : Program) (x : Given) (m₀ m : Machine) (step : Step) → Long m₀ m → Long m₀ (act p x m step)
long_step p x m₀ m step (r, c, s) =
    let e = act_kept p x m step in
    (registers_long p x m step ∙ r, ap (λ (y : Lengths). y.control) e ∙ c, ap (λ (y : Lengths). y.spills) e ∙ s)

-- words that are a step's are run as that step
pub next_machine : (p : Program) (steps : List ℕ) (x : Given) (m : Machine) (from i : ℕ) (step : Step) → step_at steps (from + i) ≡ Some step
    → steps_to p steps x m from (suc i) ≡ counted (act p x (steps_to p steps x m from i) step)
unfolding steps_to act_words
next_machine p steps x m from i step e = rw e
