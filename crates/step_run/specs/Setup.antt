-- The structs that a call's samples are handed, as the values that the definitions speak of, and what the functions require of them. Definitions alone.
use Rattle.std.specs.Prelude.{List, ℕ, length}
use Rattle.block.specs.declared.Block as block
use Rattle.kernel.specs.declared.Phase.TheVariants.{Control, Sample}
use Rattle.memory.specs.Fit.{line_lengths}
use Rattle.memory.specs.Signals.{rendered}
use Rattle.memory.specs.declared.lines.Memories as memory
use Rattle.memory.specs.declared.signals.Signals as signal
use Rattle.memory.specs.Lent.{the_memories, the_signals}
use Rattle.kernel.specs.declared.Code as code
use Rattle.machine.specs.declared.steps.Slots as slot
use Rattle.machine.specs.Machine.{Machine}
use Rattle.machine.specs.Ready.{Listed}
use Rattle.step_run.specs.declared.samples.Setup as declared
use Rattle.step_run.specs.Run.{Code, code_of, Setup, setup, cleared, Tables, tables}
use Rattle.step_run.specs.Ready.{Playable}

abbrev pub the_code : code.Code → Code
the_code c = code_of c.kernel c.steps.now c.instructions.now

-- every table that a call writes, and the registers
abbrev pub the_tables : List ℕ → slot.Slots → memory.Memories → List ℕ → List ℕ → Tables
the_tables expansion s m output registers = tables expansion s.control.now s.spills.now (rendered output (the_memories m)) registers

abbrev pub the_setup : declared.Setup → Setup
the_setup u = setup (line_lengths u.program.lines.delays.now) u.flag (the_code u.program.code) (the_signals u.signals)

abbrev pub setup_for : block.Block → code.Code → signal.Signals → Setup
setup_for b c s = setup (line_lengths b.delays.now) b.header.network (the_code c) (the_signals s)

-- registers and slots cleared, the memories as they are
abbrev pub begun : slot.Slots → memory.Memories → Machine
begun s m = cleared (length s.control.now) (length s.spills.now) (the_memories m)

-- the control steps may run, and the sample steps
abbrev pub ControlListed : declared.Setup → memory.Memories → Type 0
ControlListed u m =
    let c = u.program.code in
    Listed (length u.signals.settings.now) (length m.held.now) (length m.cursors.now) c.kernel c.steps.now c.instructions.now Control 0 c.kernel.control

abbrev pub SamplesListed : declared.Setup → memory.Memories → Type 0
SamplesListed u m =
    let c = u.program.code in
    Listed (length u.signals.settings.now) (length m.held.now) (length m.cursors.now) c.kernel c.steps.now c.instructions.now Sample c.kernel.control c.kernel.sample

abbrev pub IsPlayable : ℕ → block.Block → code.Code → signal.Signals → slot.Slots → memory.Memories → List ℕ → Type 0
IsPlayable count b c x s m output =
    Playable b.header.network count (length x.settings.now) (length m.held.now) c.kernel c.steps.now c.instructions.now b.delays.now s.control.now s.spills.now m.area.now
    m.cursors.now x.input.now x.network.now output
