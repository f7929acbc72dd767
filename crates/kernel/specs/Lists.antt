-- Answer 15: which step lists may run. "a step malformed or barred from its phase (see the checker), a malformed computed instruction, an index outside
-- its table or declared count, no sample steps". Definitions alone.
use Rattle.std.specs.Prelude.{Bool, true, false, not, List, ℕ, ◌+◌, ◌*◌, ◌≤◌, eqb, ltb, length, Option, Some, None}
use Rattle.tables.specs.Loops.{every}
use Rattle.tables.specs.Tests.{◌&◌}
use Rattle.kernel.specs.declared.Source.{Source}
use Rattle.kernel.specs.declared.Step.{Step}
use Rattle.kernel.specs.declared.Step.TheVariants.{Load, Compute, Spill, Reload, StoreState, StoreDelay, StoreOutput, StoreControl}
use Rattle.kernel.specs.declared.Instruction.{Instruction}
use Rattle.kernel.specs.declared.Phase.{Phase}
use Rattle.kernel.specs.declared.Phase.TheVariants.{Control, Sample}
use Rattle.kernel.specs.declared.Kernel.{Kernel}
pub use Rattle.kernel.specs.declared.Sizes.{Sizes}
use Rattle.kernel.specs.Steps.{step_at, allowed_in}
use Rattle.kernel.specs.Instructions.{instruction_at}

-- how many there are of what steps index: the block's tables and the kernel's declared counts
abbrev pub sizes : ℕ → ℕ → ℕ → Kernel → Sizes
sizes parameters states delays k =
    record {
      parameters = parameters;
      states = states;
      delays = delays;
      instructions = k.instructions;
      control_slots = k.slots;
      spill_slots = k.spills;
    }

-- "an index outside its table or declared count", of a load
abbrev pub source_inside : Sizes → Source → Bool
source_inside n Source.Audio = true
source_inside n Source.Network = true
source_inside n (Source.Parameter index) = ltb index n.parameters
source_inside n (Source.State index) = ltb index n.states
source_inside n (Source.Delay index) = ltb index n.delays
source_inside n (Source.Control slot) = ltb slot n.control_slots

-- ".. of a step"
abbrev pub index_inside : Sizes → Step → Bool
index_inside n (Load source register) = source_inside n source
index_inside n (Compute instruction) = ltb instruction n.instructions
index_inside n (Spill slot register) = ltb slot n.spill_slots
index_inside n (Reload slot register) = ltb slot n.spill_slots
index_inside n (StoreState state register) = ltb state n.states
index_inside n (StoreDelay delay register) = ltb delay n.delays
index_inside n (StoreOutput register) = true
index_inside n (StoreControl slot register) = ltb slot n.control_slots

abbrev pub is_formed : Option Instruction → Bool
is_formed (Some instruction) = true
is_formed None = false

-- the instruction that a step computes is well formed; instructions that no step computes are not looked at
abbrev pub computes_formed : List ℕ → Step → Bool
computes_formed instructions (Load source register) = true
computes_formed instructions (Compute instruction) = is_formed (instruction_at instructions instruction)
computes_formed instructions (Spill slot register) = true
computes_formed instructions (Reload slot register) = true
computes_formed instructions (StoreState state register) = true
computes_formed instructions (StoreDelay delay register) = true
computes_formed instructions (StoreOutput register) = true
computes_formed instructions (StoreControl slot register) = true

-- a step may run in a phase
unfoldable pub step_may_run : Sizes → List ℕ → Phase → Step → Bool
step_may_run n instructions phase step = allowed_in phase step & index_inside n step & computes_formed instructions step

-- .. and so may its words
abbrev pub words_may_run : Sizes → List ℕ → Phase → Option Step → Bool
words_may_run n instructions phase (Some step) = step_may_run n instructions phase step
words_may_run n instructions phase None = false

-- step i of a table may
unfoldable pub may_run : Sizes → List ℕ → List ℕ → Phase → ℕ → Bool
may_run n steps instructions phase i = words_may_run n instructions phase (step_at steps i)

-- step i of a phase may, whose steps stand in the table from `first` on: control steps come first, sample steps after them
unfoldable pub phase_may_run : Sizes → List ℕ → List ℕ → Phase → ℕ → ℕ → Bool
phase_may_run n steps instructions phase first i = may_run n steps instructions phase (first + i)

-- the whole list may run: what answer 15 is given for is the opposite
unfoldable pub list_may_run : Sizes → List ℕ → List ℕ → Kernel → Bool
list_may_run n steps instructions k =
    not (eqb k.sample 0)
    & every (phase_may_run n steps instructions Control 0) k.control
    & every (phase_may_run n steps instructions Sample k.control) k.sample

-- answer 13 comes before 15: the two tables are as long as the kernel declares
pub record Declared (steps instructions : List ℕ) (k : Kernel) : Type 0 where
  pub whole_steps : 2 * (k.control + k.sample) ≤ length steps
  pub whole_instructions : 2 * k.instructions ≤ length instructions
