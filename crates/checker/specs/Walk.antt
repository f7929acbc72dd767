-- "Control is walked, then sample": what the registers and slots hold before each step, as classes of nodes, and which steps pass. Definitions alone.
use Rattle.std.specs.Prelude.{Bool, true, false, cond, not, ◌||◌, List, ℕ, zero, suc, ◌+◌, ◌/◌, ◌%◌, ◌^◌, length, get_or, set, replicate, ltb, eqb, Option, Some, None}
use Rattle.tables.specs.Tests.{◌&◌}
use Rattle.tables.specs.Loops.{every}
use Rattle.answers.specs.Numbers.{Answer}
use Rattle.answers.specs.Order.{◌⨾◌, refuse_at, in_order}
use Rattle.expand.specs.Graph.{Graph}
use Rattle.kernel.specs.declared.Source.{Source}
use Rattle.kernel.specs.declared.Step.{Step}
use Rattle.kernel.specs.declared.Step.TheVariants.{Load, Compute, Spill, Reload, StoreState, StoreDelay, StoreOutput, StoreControl}
use Rattle.kernel.specs.declared.Instruction.{Instruction}
use Rattle.kernel.specs.declared.Instruction.TheVariants.{Immediate, Add, Sub, Mul, Min, Max, Neg, Abs, IntegerSub}
use Rattle.kernel.specs.declared.Phase.{Phase}
use Rattle.kernel.specs.declared.Phase.TheVariants.{Control, Sample}
use Rattle.kernel.specs.declared.Kernel.{Kernel}
use Rattle.kernel.specs.Steps.{step_at}
use Rattle.kernel.specs.Instructions.{destination, instruction_at}
use Rattle.kernel.specs.declared.Sizes.{Sizes}
use Rattle.kernel.specs.Lists.{sizes, step_may_run}
use Rattle.classes.specs.Classes.{classes_to, find}

-- a step list with what it is checked against: the expanded block, the number of its parameters, the mask
pub record Listing : Type 0 where
  pub graph : Graph
  pub parameters : ℕ
  pub mask : ℕ
  pub kernel : Kernel
  pub steps : List ℕ
  pub instructions : List ℕ

abbrev pub listing : Graph → ℕ → ℕ → Kernel → List ℕ → List ℕ → Listing
listing graph parameters mask kernel steps instructions =
    record { graph = graph; parameters = parameters; mask = mask; kernel = kernel; steps = steps; instructions = instructions }

-- how many there are of what its steps index
abbrev pub sizes_of : Listing → Sizes
sizes_of l = sizes l.parameters (length l.graph.state_updates) (length l.graph.delay_updates) l.kernel

-- ---- "registers used (not compute's 0 or unused parts) lie in the mask"

-- "A mask's low sixteen bits count, bit n for rn."
unfoldable pub in_mask : ℕ → ℕ → Bool
in_mask mask r = ltb r 16 & eqb (mask / 2 ^ r % 2) 1

abbrev pub instruction_in_mask : ℕ → Instruction → Bool
instruction_in_mask mask (Immediate dst value) = in_mask mask dst
instruction_in_mask mask (Add dst lhs rhs) = in_mask mask dst & in_mask mask lhs & in_mask mask rhs
instruction_in_mask mask (Sub dst lhs rhs) = in_mask mask dst & in_mask mask lhs & in_mask mask rhs
instruction_in_mask mask (Mul dst lhs rhs) = in_mask mask dst & in_mask mask lhs & in_mask mask rhs
instruction_in_mask mask (Min dst lhs rhs) = in_mask mask dst & in_mask mask lhs & in_mask mask rhs
instruction_in_mask mask (Max dst lhs rhs) = in_mask mask dst & in_mask mask lhs & in_mask mask rhs
instruction_in_mask mask (Neg dst src) = in_mask mask dst & in_mask mask src
instruction_in_mask mask (Abs dst src) = in_mask mask dst & in_mask mask src
instruction_in_mask mask (IntegerSub dst lhs rhs) = in_mask mask dst & in_mask mask lhs & in_mask mask rhs

abbrev pub words_in_mask : ℕ → Option Instruction → Bool
words_in_mask mask (Some instruction) = instruction_in_mask mask instruction
words_in_mask mask None = false

abbrev pub step_in_mask : ℕ → List ℕ → Step → Bool
step_in_mask mask instructions (Load source register) = in_mask mask register
step_in_mask mask instructions (Compute instruction) = words_in_mask mask (instruction_at instructions instruction)
step_in_mask mask instructions (Spill slot register) = in_mask mask register
step_in_mask mask instructions (Reload slot register) = in_mask mask register
step_in_mask mask instructions (StoreState state register) = in_mask mask register
step_in_mask mask instructions (StoreDelay delay register) = in_mask mask register
step_in_mask mask instructions (StoreOutput register) = in_mask mask register
step_in_mask mask instructions (StoreControl slot register) = in_mask mask register

-- ---- what is held before a step

-- of each register, control slot and spill slot the class, and one, or 0 where it is not filled; of each state, each delay and the output 1 where it has
-- been stored, else 0
pub record Held : Type 0 where
  pub registers : List ℕ
  pub control : List ℕ
  pub spills : List ℕ
  pub states_stored : List ℕ
  pub delays_stored : List ℕ
  pub output_stored : ℕ

abbrev pub held : List ℕ → List ℕ → List ℕ → List ℕ → List ℕ → ℕ → Held
held registers control spills states_stored delays_stored output_stored =
    record {
      registers = registers;
      control = control;
      spills = spills;
      states_stored = states_stored;
      delays_stored = delays_stored;
      output_stored = output_stored;
    }

abbrev pub register : Held → ℕ → ℕ
register h r = get_or h.registers r 0

-- ---- the class, and one, of the word that a step moves; 0 where the step may not move it

-- of the nodes with a code and two keys; 0 where there is none
abbrev pub class_of : Graph → ℕ → ℕ → ℕ → ℕ
class_of g c x y = find g.nodes g.count c x y

-- "a load's source is some node's": the node's code and index
unfoldable pub fetched : Graph → ℕ → ℕ → ℕ
fetched g c index = class_of g c index 0

-- ".. and not loaded afterwards"
unfoldable pub unless_stored : ℕ → ℕ → ℕ
unless_stored stored class = cond (eqb stored 0) class 0

-- "a control load .. names a filled slot"
abbrev pub loaded_class : Graph → Held → Source → ℕ
loaded_class g h Source.Audio = fetched g 0 0
loaded_class g h Source.Network = fetched g 17 0
loaded_class g h (Source.Parameter index) = fetched g 2 index
loaded_class g h (Source.State index) = unless_stored (get_or h.states_stored index 0) (fetched g 3 index)
loaded_class g h (Source.Delay index) = unless_stored (get_or h.delays_stored index 0) (fetched g 4 index)
loaded_class g h (Source.Control slot) = get_or h.control slot 0

-- "a compute .. reads filled registers, and a computed result has some node's class": of a node's code and the held operands
unfoldable pub result_of_two : Graph → ℕ → ℕ → ℕ → ℕ
result_of_two g c zero y = 0
result_of_two g c (suc x) zero = 0
result_of_two g c (suc x) (suc y) = class_of g c x y

unfoldable pub result_of_one : Graph → ℕ → ℕ → ℕ
result_of_one g c zero = 0
result_of_one g c (suc x) = class_of g c x 0

abbrev pub computed_class : Graph → Held → Instruction → ℕ
computed_class g h (Immediate dst value) = class_of g 1 value 0
computed_class g h (Add dst lhs rhs) = result_of_two g 5 (register h lhs) (register h rhs)
computed_class g h (Sub dst lhs rhs) = result_of_two g 6 (register h lhs) (register h rhs)
computed_class g h (Mul dst lhs rhs) = result_of_two g 7 (register h lhs) (register h rhs)
computed_class g h (Min dst lhs rhs) = result_of_two g 8 (register h lhs) (register h rhs)
computed_class g h (Max dst lhs rhs) = result_of_two g 9 (register h lhs) (register h rhs)
computed_class g h (Neg dst src) = result_of_one g 12 (register h src)
computed_class g h (Abs dst src) = result_of_one g 13 (register h src)
computed_class g h (IntegerSub dst lhs rhs) = result_of_two g 10 (register h lhs) (register h rhs)

abbrev pub words_class : Graph → Held → Option Instruction → ℕ
words_class g h (Some instruction) = computed_class g h instruction
words_class g h None = 0

-- what is stored where an update (0, or a node's number and one) asks for that node's class
unfoldable pub asked : Graph → ℕ → ℕ → ℕ
asked g zero class = 0
asked g (suc n) class = cond (eqb class (suc (get_or (classes_to g.nodes g.count) n 0))) class 0

abbrev pub moved_class : Graph → List ℕ → Held → Step → ℕ
moved_class g instructions h (Load source r) = loaded_class g h source
moved_class g instructions h (Compute i) = words_class g h (instruction_at instructions i)
moved_class g instructions h (Spill slot r) = register h r
moved_class g instructions h (Reload slot r) = get_or h.spills slot 0
moved_class g instructions h (StoreState state r) =
    unless_stored (get_or h.states_stored state 0) (asked g (get_or g.state_updates state 0) (register h r))
moved_class g instructions h (StoreDelay delay r) =
    unless_stored (get_or h.delays_stored delay 0) (asked g (get_or g.delay_updates delay 0) (register h r))
moved_class g instructions h (StoreOutput r) = asked g (suc g.output) (register h r)
moved_class g instructions h (StoreControl slot r) = register h r

-- ---- what is held after a step that moved this class
abbrev pub with_register : Held → ℕ → ℕ → Held
with_register h r class = held (set h.registers r class) h.control h.spills h.states_stored h.delays_stored h.output_stored

abbrev pub with_result : Held → Option Instruction → ℕ → Held
with_result h (Some instruction) class = with_register h (destination instruction) class
with_result h None class = h

abbrev pub after_move : List ℕ → Held → Step → ℕ → Held
after_move instructions h (Load source r) class = with_register h r class
after_move instructions h (Compute i) class = with_result h (instruction_at instructions i) class
after_move instructions h (Spill slot r) class =
    held h.registers h.control (set h.spills slot class) h.states_stored h.delays_stored h.output_stored
after_move instructions h (Reload slot r) class = with_register h r class
after_move instructions h (StoreState state r) class =
    held h.registers h.control h.spills (set h.states_stored state 1) h.delays_stored h.output_stored
after_move instructions h (StoreDelay delay r) class =
    held h.registers h.control h.spills h.states_stored (set h.delays_stored delay 1) h.output_stored
after_move instructions h (StoreOutput r) class = held h.registers h.control h.spills h.states_stored h.delays_stored 1
after_move instructions h (StoreControl slot r) class =
    held h.registers (set h.control slot class) h.spills h.states_stored h.delays_stored h.output_stored

unfoldable pub after_step : Listing → Held → Step → Held
after_step l h step = after_move l.instructions h step (moved_class l.graph l.instructions h step)

-- the words of a malformed step change nothing; the list does not pass
abbrev pub after_words : Listing → Held → Option Step → Held
after_words l h (Some step) = after_step l h step
after_words l h None = h

-- ---- the walk

-- "registers start each phase empty", and the control slots the control phase
unfoldable pub emptied : Listing → Held
emptied l =
    held
    (replicate 16 0)
    (replicate l.kernel.slots 0)
    (replicate l.kernel.spills 0)
    (replicate (length l.graph.state_updates) 0)
    (replicate (length l.graph.delay_updates) 0)
    0

-- ".. spill slots the sample": the control slots stay
unfoldable pub entered : Listing → Held → Held
entered l h =
    held (replicate 16 0) h.control (replicate l.kernel.spills 0) h.states_stored h.delays_stored h.output_stored

-- n steps of the table from step `from` on
unfoldable pub walked : Listing → Held → ℕ → ℕ → Held
walked l h from zero = h
walked l h from (suc n) = after_words l (walked l h from n) (step_at l.steps (from + n))

-- what is held before control step i, and before sample step i
abbrev pub before_control : Listing → ℕ → Held
before_control l i = walked l (emptied l) 0 i

abbrev pub before_sample : Listing → ℕ → Held
before_sample l i = walked l (entered l (before_control l l.kernel.control)) l.kernel.control i

-- ---- which steps pass

-- "the last sample step, and no other, has code 12"
abbrev pub output_only_last : Bool → Step → Bool
output_only_last last (Load source r) = true
output_only_last last (Compute i) = true
output_only_last last (Spill slot r) = true
output_only_last last (Reload slot r) = true
output_only_last last (StoreState state r) = true
output_only_last last (StoreDelay delay r) = true
output_only_last last (StoreOutput r) = last
output_only_last last (StoreControl slot r) = true

unfoldable pub step_passes : Listing → Phase → Bool → Held → Step → Bool
step_passes l phase last h step =
    step_may_run (sizes_of l) l.instructions phase step
    & step_in_mask l.mask l.instructions step
    & output_only_last last step
    & not (eqb (moved_class l.graph l.instructions h step) 0)

abbrev pub words_pass : Listing → Phase → Bool → Held → Option Step → Bool
words_pass l phase last h (Some step) = step_passes l phase last h step
words_pass l phase last h None = false

unfoldable pub control_passes : Listing → ℕ → Bool
control_passes l i = words_pass l Control false (before_control l i) (step_at l.steps i)

unfoldable pub sample_passes : Listing → ℕ → Bool
sample_passes l i = words_pass l Sample (eqb (suc i) l.kernel.sample) (before_sample l i) (step_at l.steps (l.kernel.control + i))

-- "each state and delay with an update is stored"
unfoldable pub stored_if_asked : List ℕ → List ℕ → ℕ → Bool
stored_if_asked updates stored i = eqb (get_or updates i 0) 0 || not (eqb (get_or stored i 0) 0)

-- nothing is missing at the end: "a store, output included"
unfoldable pub nothing_missing : Listing → Held → Bool
nothing_missing l h =
    every (stored_if_asked l.graph.state_updates h.states_stored) (length l.graph.state_updates)
    & every (stored_if_asked l.graph.delay_updates h.delays_stored) (length l.graph.delay_updates)
    & not (eqb h.output_stored 0)

-- "Refusal 19 gives the first failing step's position from 0, control first, or the total if a store, output included, is missing at the end."
abbrev pub control_answer : Listing → ℕ → Answer Unit
control_answer l i = refuse_at 19 i (not (control_passes l i))

abbrev pub sample_answer : Listing → ℕ → Answer Unit
sample_answer l i = refuse_at 19 (l.kernel.control + i) (not (sample_passes l i))

unfoldable pub walk_answer : Listing → Answer Unit
walk_answer l =
    in_order (control_answer l) l.kernel.control
    ⨾ in_order (sample_answer l) l.kernel.sample
    ⨾ refuse_at 19 (l.kernel.control + l.kernel.sample) (not (nothing_missing l (before_sample l l.kernel.sample)))
