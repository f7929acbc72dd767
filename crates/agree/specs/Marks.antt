-- Filled marks: which registers and slots a run has filled before each step, and what a step reads and fills. It looks at no value. Definitions alone.
use Rattle.std.specs.Prelude.{Bool, true, false, List, ℕ, zero, suc, ◌+◌, get_or, set, replicate, eqb, Option, Some, None}
use Rattle.tables.specs.Tests.{◌&◌}
use Rattle.kernel.specs.declared.Source.{Source}
use Rattle.kernel.specs.declared.Step.{Step}
use Rattle.kernel.specs.declared.Step.TheVariants.{Load, Compute, Spill, Reload, StoreState, StoreDelay, StoreOutput, StoreControl}
use Rattle.kernel.specs.declared.Instruction.{Instruction}
use Rattle.kernel.specs.declared.Instruction.TheVariants.{Immediate, Add, Sub, Mul, Min, Max, Neg, Abs, IntegerSub}
use Rattle.kernel.specs.declared.Kernel.{Kernel}
use Rattle.kernel.specs.Steps.{step_at}
use Rattle.kernel.specs.Instructions.{destination, instruction_at}
use Rattle.kernel.specs.declared.Sizes.{Sizes}
use Rattle.kernel.specs.Lists.{index_inside, computes_formed}
use Rattle.step_run.specs.Run.{Code}

-- of each register, control slot and spill slot 1 where it is filled, else 0
pub record Marks : Type 0 where
  pub registers : List ℕ
  pub control : List ℕ
  pub spills : List ℕ

abbrev pub marks : List ℕ → List ℕ → List ℕ → Marks
marks registers control spills = record { registers = registers; control = control; spills = spills }

abbrev pub is_filled : List ℕ → ℕ → Bool
is_filled table i = eqb (get_or table i 0) 1

-- ---- what a step reads is filled
abbrev pub source_filled : Marks → Source → Bool
source_filled m Source.Audio = true
source_filled m Source.Network = true
source_filled m (Source.Parameter index) = true
source_filled m (Source.State index) = true
source_filled m (Source.Delay index) = true
source_filled m (Source.Control slot) = is_filled m.control slot

abbrev pub operands_filled : Marks → Instruction → Bool
operands_filled m (Immediate dst value) = true
operands_filled m (Add dst lhs rhs) = is_filled m.registers lhs & is_filled m.registers rhs
operands_filled m (Sub dst lhs rhs) = is_filled m.registers lhs & is_filled m.registers rhs
operands_filled m (Mul dst lhs rhs) = is_filled m.registers lhs & is_filled m.registers rhs
operands_filled m (Min dst lhs rhs) = is_filled m.registers lhs & is_filled m.registers rhs
operands_filled m (Max dst lhs rhs) = is_filled m.registers lhs & is_filled m.registers rhs
operands_filled m (Neg dst src) = is_filled m.registers src
operands_filled m (Abs dst src) = is_filled m.registers src
operands_filled m (IntegerSub dst lhs rhs) = is_filled m.registers lhs & is_filled m.registers rhs

abbrev pub instruction_filled : Marks → Option Instruction → Bool
instruction_filled m (Some instruction) = operands_filled m instruction
instruction_filled m None = false

abbrev pub reads_filled : List ℕ → Marks → Step → Bool
reads_filled instructions m (Load source register) = source_filled m source
reads_filled instructions m (Compute instruction) = instruction_filled m (instruction_at instructions instruction)
reads_filled instructions m (Spill slot register) = is_filled m.registers register
reads_filled instructions m (Reload slot register) = is_filled m.spills slot
reads_filled instructions m (StoreState state register) = is_filled m.registers register
reads_filled instructions m (StoreDelay delay register) = is_filled m.registers register
reads_filled instructions m (StoreOutput register) = is_filled m.registers register
reads_filled instructions m (StoreControl slot register) = is_filled m.registers register

-- ---- what a step fills
abbrev pub fill_register : Marks → ℕ → Marks
fill_register m r = marks (set m.registers r 1) m.control m.spills

abbrev pub fill_result : Marks → Option Instruction → Marks
fill_result m (Some instruction) = fill_register m (destination instruction)
fill_result m None = m

abbrev pub fill : List ℕ → Marks → Step → Marks
fill instructions m (Load source register) = fill_register m register
fill instructions m (Compute instruction) = fill_result m (instruction_at instructions instruction)
fill instructions m (Spill slot register) = marks m.registers m.control (set m.spills slot 1)
fill instructions m (Reload slot register) = fill_register m register
fill instructions m (StoreState state register) = m
fill instructions m (StoreDelay delay register) = m
fill instructions m (StoreOutput register) = m
fill instructions m (StoreControl slot register) = marks m.registers (set m.control slot 1) m.spills

abbrev pub fill_words : List ℕ → Marks → Option Step → Marks
fill_words instructions m (Some step) = fill instructions m step
fill_words instructions m None = m

-- after n steps of a list from step `from` on
unfoldable pub marks_to : Code → Marks → ℕ → ℕ → Marks
marks_to c m from zero = m
marks_to c m from (suc n) = fill_words c.instructions (marks_to c m from n) (step_at c.steps (from + n))

-- ---- before each step: "registers start each phase empty", control slots the call, "spill slots the sample"
unfoldable pub unfilled : Kernel → Marks
unfilled k = marks (replicate 16 0) (replicate k.slots 0) (replicate k.spills 0)

unfoldable pub sample_begins : Kernel → Marks → Marks
sample_begins k m = marks (replicate 16 0) m.control (replicate k.spills 0)

abbrev pub marks_before_control : Code → ℕ → Marks
marks_before_control c i = marks_to c (unfilled c.kernel) 0 i

-- at the start of sample t, and before its step i
unfoldable pub marks_at_sample : Code → ℕ → Marks
marks_at_sample c zero = sample_begins c.kernel (marks_before_control c c.kernel.control)
marks_at_sample c (suc t) = sample_begins c.kernel (marks_to c (marks_at_sample c t) c.kernel.control c.kernel.sample)

abbrev pub marks_before_sample : Code → ℕ → ℕ → Marks
marks_before_sample c t i = marks_to c (marks_at_sample c t) c.kernel.control i

-- ---- a step that is sure of what it reads: it reads filled registers and slots alone, its index is inside its table, and the instruction that it computes is
-- well formed
unfoldable pub is_sure : Sizes → List ℕ → Marks → Step → Bool
is_sure n instructions m step = reads_filled instructions m step & index_inside n step & computes_formed instructions step

abbrev pub words_sure : Sizes → List ℕ → Marks → Option Step → Bool
words_sure n instructions m (Some step) = is_sure n instructions m step
words_sure n instructions m None = false
