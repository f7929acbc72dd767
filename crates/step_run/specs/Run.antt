-- The step run over the samples of a call, and the call. Definitions alone.
use Rattle.std.specs.Prelude.{Bool, not, cond, ◌||◌, List, ◌++◌, ℕ, zero, suc, ◌+◌, ◌*◌, length, set, drop, replicate, eqb, ltb}
use Rattle.answers.specs.Numbers as Numbers
use Rattle.answers.specs.Order.{◌⨾◌, refuse}
use Rattle.block.specs.Block.{Block, parameter_count, state_count, delay_count}
use Rattle.block.specs.Validation.{expanded_length, validation}
use Rattle.expand.specs.Graph.{graph_of}
use Rattle.kernel.specs.declared.Kernel.{Kernel}
use Rattle.kernel.specs.Lists.{sizes, list_may_run}
use Rattle.memory.specs.Lines.{Memories}
use Rattle.memory.specs.Sizes.{run_fits}
use Rattle.memory.specs.Signals.{given, Signals, Rendered, rendered, given_by}
use Rattle.step_run.specs.declared.Done.{Done}
use Rattle.machine.specs.Machine.{Machine, machine, Program, program, steps_to, with_output}
use Rattle.step_run.specs.Budget.{samples_done}

-- a kernel with its tables
pub record Code : Type 0 where
  pub kernel : Kernel
  pub steps : List ℕ
  pub instructions : List ℕ

abbrev pub code_of : Kernel → List ℕ → List ℕ → Code
code_of kernel steps instructions = record { kernel = kernel; steps = steps; instructions = instructions }

-- "A sample with no output store writes 0x7fc00000."
abbrev pub no_output : ℕ
no_output = 0x7fc00000

-- what the samples of a call run with and never write: the delay lengths, the network flag, the kernel, parameter values and signals
pub record Setup : Type 0 where
  pub lengths : List ℕ
  pub network : ℕ
  pub code : Code
  pub signals : Signals

abbrev pub setup : List ℕ → ℕ → Code → Signals → Setup
setup lengths network code signals = record { lengths = lengths; network = network; code = code; signals = signals }

abbrev pub setup_of : Block → Code → Signals → Setup
setup_of b c s = setup (graph_of b).delay_lengths b.header.network c s

abbrev pub program_of : Setup → Program
program_of u = program u.lengths u.code.instructions

-- "The step run clears registers, control and spill tables at entry": so many words of control and spill table
abbrev pub cleared : ℕ → ℕ → Memories → Machine
cleared control spills m = machine (replicate 16 0) (replicate control 0) (replicate spills 0) m no_output 0

-- "Control steps run once per call": they load parameters and control slots alone, so what the sample would be given does not matter
unfoldable pub control_done : Setup → Machine → Machine
control_done u m = steps_to (program_of u) u.code.steps (given 0 0 u.signals.parameters) m 0 u.code.kernel.control

-- sample t: the sample steps, from a machine with no output word
unfoldable pub sample_done : Setup → Machine → ℕ → Machine
sample_done u m t =
    steps_to
    (program_of u)
    u.code.steps
    (given_by u.network u.signals t)
    (with_output m no_output)
    u.code.kernel.control
    u.code.kernel.sample

-- a machine between samples, and the output table so far
pub record Running : Type 0 where
  pub machine : Machine
  pub output : List ℕ

abbrev pub running : Machine → List ℕ → Running
running machine output = record { machine = machine; output = output }

abbrev pub emit : Machine → List ℕ → ℕ → Running
emit m output t = running m (set output t m.output)

-- the first n samples
unfoldable pub samples_to : Setup → Running → ℕ → Running
samples_to u r zero = r
samples_to u r (suc t) =
    let before = samples_to u r t in
    emit (sample_done u before.machine t) before.output t

-- ---- the call: every lent table that it writes, and the registers
pub record Tables : Type 0 where
  pub expansion : List ℕ
  pub control : List ℕ
  pub spills : List ℕ
  pub rendered : Rendered
  pub registers : List ℕ

abbrev pub tables : List ℕ → List ℕ → List ℕ → Rendered → List ℕ → Tables
tables expansion control spills r registers =
    record { expansion = expansion; control = control; spills = spills; rendered = r; registers = registers }

pub record Outcome : Type 0 where
  pub answer : Numbers.Answer Done
  pub tables : Tables

abbrev pub outcome : Numbers.Answer Done → Tables → Outcome
outcome answer t = record { answer = answer; tables = t }

-- the run of n samples, from cleared registers and slots
unfoldable pub run_for : Setup → Tables → ℕ → Running
run_for u t n =
    let start = cleared (length t.control) (length t.spills) t.rendered.memories in
    samples_to u (running (control_done u start) t.rendered.output) n

-- how many samples a call does
abbrev pub samples_of : Code → ℕ → Signals → ℕ
samples_of c budget s = samples_done c.kernel budget (length s.input)

-- "steps spent is that sum, or 0 when n is 0": the steps that the run executed
unfoldable pub steps_spent : Setup → Tables → ℕ → ℕ
steps_spent u t n = cond (eqb n 0) 0 (run_for u t n).machine.executed

-- 13: a table "shorter than stated below, than a declared count": the expanded length, then the lengths of expansion, steps, instructions, control and
-- spill table
unfoldable pub shorter : Kernel → ℕ → ℕ → ℕ → ℕ → ℕ → ℕ → Bool
shorter k nodes expansion steps instructions control spills =
    ltb expansion (3 * nodes)
    || ltb steps (2 * (k.control + k.sample))
    || ltb instructions (2 * k.instructions)
    || ltb control k.slots
    || ltb spills k.spills

abbrev pub too_short : Block → Code → Tables → Bool
too_short b c t =
    shorter c.kernel (expanded_length b) (length t.expansion) (length c.steps) (length c.instructions) (length t.control) (length t.spills)

-- the refusals of a call: 1 to 13, 15 and 16
unfoldable pub run_judged : Block → Code → Signals → Tables → Numbers.Answer Unit
run_judged b c s t =
    validation b
    ⨾ refuse 13 (too_short b c t)
    ⨾ refuse 15 (not (list_may_run (sizes (parameter_count b) (state_count b) (delay_count b) c.kernel) c.steps c.instructions c.kernel))
    ⨾ refuse 16 (not (run_fits b s.parameters t.rendered.memories s.input t.rendered.output s.network))

unfoldable pub run_answer : Block → Code → ℕ → Signals → Tables → Numbers.Answer Done
run_answer b c budget s t =
    run_judged b c s t
    ⨾ Numbers.accepted (record { samples = samples_of c budget s; steps = steps_spent (setup_of b c s) t (samples_of c budget s) })

abbrev pub expansion_after : Block → Tables → List ℕ
expansion_after b t = (graph_of b).nodes ++ drop (3 * expanded_length b) t.expansion

-- what a run of samples leaves
abbrev pub tables_of : List ℕ → Running → Tables
tables_of expansion r =
    tables expansion r.machine.control r.machine.spills (rendered r.output r.machine.memories) r.machine.registers

-- what n samples leave; "when n is 0 .. only the expansion is written"
abbrev pub tables_after : Block → Code → Signals → Tables → ℕ → Tables
tables_after b c s t zero = tables (expansion_after b t) t.control t.spills t.rendered t.registers
tables_after b c s t (suc n) = tables_of (expansion_after b t) (run_for (setup_of b c s) t (suc n))

unfoldable pub run_after : Numbers.Answer Done → Block → Code → Signals → Tables → Tables
run_after (Numbers.accepted d) b c s t = tables_after b c s t d.samples
run_after (Numbers.refused n vs) b c s t = t

unfoldable pub run_call : Block → Code → ℕ → Signals → Tables → Outcome
run_call b c budget s t =
    let answer = run_answer b c budget s t in
    outcome answer (run_after answer b c s t)
