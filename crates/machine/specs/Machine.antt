-- The machine that steps run on: host.rs, `run_lowered` and `execute`. Definitions alone.
use Rattle.std.specs.Prelude.{List, ℕ, zero, suc, ◌+◌, get_or, set, Option, Some, None}
use Rattle.words.specs.Operations.{added, subtracted, multiplied, lesser, greater, negated, absolute, wrapping_difference}
use Rattle.kernel.specs.declared.Source.{Source}
use Rattle.kernel.specs.declared.Step.{Step}
use Rattle.kernel.specs.declared.Step.TheVariants.{Load, Compute, Spill, Reload, StoreState, StoreDelay, StoreOutput, StoreControl}
use Rattle.kernel.specs.declared.Instruction.{Instruction}
use Rattle.kernel.specs.declared.Instruction.TheVariants.{Immediate, Add, Sub, Mul, Min, Max, Neg, Abs, IntegerSub}
use Rattle.kernel.specs.Steps.{step_at}
use Rattle.kernel.specs.Instructions.{destination, instruction_at}
use Rattle.memory.specs.Lines.{Memories, read_delay, store_delay, store_state}
use Rattle.memory.specs.Signals.{Given}

-- registers, control slots, spill slots, the memories, this sample's output word, and how many steps have been executed
pub record Machine : Type 0 where
  pub registers : List ℕ
  pub control : List ℕ
  pub spills : List ℕ
  pub memories : Memories
  pub output : ℕ
  pub executed : ℕ

abbrev pub machine : List ℕ → List ℕ → List ℕ → Memories → ℕ → ℕ → Machine
machine registers control spills m output executed =
    record { registers = registers; control = control; spills = spills; memories = m; output = output; executed = executed }

-- what a list of steps runs with and never writes: the delay lengths and the instruction table
pub record Program : Type 0 where
  pub lengths : List ℕ
  pub instructions : List ℕ

abbrev pub program : List ℕ → List ℕ → Program
program lengths instructions = record { lengths = lengths; instructions = instructions }

-- ---- host.rs, `execute`
abbrev pub register : List ℕ → ℕ → ℕ
register registers r = get_or registers r 0

abbrev pub result_of : List ℕ → Instruction → ℕ
result_of r (Immediate dst value) = value
result_of r (Add dst lhs rhs) = added (register r lhs) (register r rhs)
result_of r (Sub dst lhs rhs) = subtracted (register r lhs) (register r rhs)
result_of r (Mul dst lhs rhs) = multiplied (register r lhs) (register r rhs)
result_of r (Min dst lhs rhs) = lesser (register r lhs) (register r rhs)
result_of r (Max dst lhs rhs) = greater (register r lhs) (register r rhs)
result_of r (Neg dst src) = negated (register r src)
result_of r (Abs dst src) = absolute (register r src)
result_of r (IntegerSub dst lhs rhs) = wrapping_difference (register r lhs) (register r rhs)

unfoldable pub execute : List ℕ → Instruction → List ℕ
execute registers i = set registers (destination i) (result_of registers i)

-- words that are no instruction never run (answer 15)
abbrev pub execute_words : List ℕ → Option Instruction → List ℕ
execute_words registers (Some i) = execute registers i
execute_words registers None = registers

-- ---- host.rs, the arms of `run_lowered`
abbrev pub loaded : List ℕ → Given → List ℕ → Memories → Source → ℕ
loaded lengths x control m Source.Audio = x.audio
loaded lengths x control m Source.Network = x.network
loaded lengths x control m (Source.Parameter index) = get_or x.parameters index 0
loaded lengths x control m (Source.State index) = get_or m.states index 0
loaded lengths x control m (Source.Delay index) = read_delay lengths m index
loaded lengths x control m (Source.Control slot) = get_or control slot 0

abbrev pub with_registers : Machine → List ℕ → Machine
with_registers m r = machine r m.control m.spills m.memories m.output m.executed

abbrev pub with_control : Machine → List ℕ → Machine
with_control m c = machine m.registers c m.spills m.memories m.output m.executed

abbrev pub with_spills : Machine → List ℕ → Machine
with_spills m s = machine m.registers m.control s m.memories m.output m.executed

abbrev pub with_memories : Machine → Memories → Machine
with_memories m k = machine m.registers m.control m.spills k m.output m.executed

abbrev pub with_output : Machine → ℕ → Machine
with_output m v = machine m.registers m.control m.spills m.memories v m.executed

abbrev pub with_register : Machine → ℕ → ℕ → Machine
with_register m r v = with_registers m (set m.registers r v)

-- what a step does
abbrev pub act : Program → Given → Machine → Step → Machine
act p x m (Load source r) = with_register m r (loaded p.lengths x m.control m.memories source)
act p x m (Compute i) = with_registers m (execute_words m.registers (instruction_at p.instructions i))
act p x m (Spill slot r) = with_spills m (set m.spills slot (register m.registers r))
act p x m (Reload slot r) = with_register m r (get_or m.spills slot 0)
act p x m (StoreState state r) = with_memories m (store_state m.memories state (register m.registers r))
act p x m (StoreDelay delay r) = with_memories m (store_delay p.lengths m.memories delay (register m.registers r))
act p x m (StoreOutput r) = with_output m (register m.registers r)
act p x m (StoreControl slot r) = with_control m (set m.control slot (register m.registers r))

-- one step more is executed
abbrev pub counted : Machine → Machine
counted m = machine m.registers m.control m.spills m.memories m.output (m.executed + 1)

-- words that are no step never run (answer 15)
unfoldable pub act_words : Program → Given → Machine → Option Step → Machine
act_words p x m (Some step) = counted (act p x m step)
act_words p x m None = m

-- the n steps of a table from step `from` on
unfoldable pub steps_to : Program → List ℕ → Given → Machine → ℕ → ℕ → Machine
steps_to p steps x m from zero = m
steps_to p steps x m from (suc n) = act_words p x (steps_to p steps x m from n) (step_at steps (from + n))
