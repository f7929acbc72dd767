-- What the functions of a phase require of the words that they are lent, and what the machine's tables keep. Definitions alone.
use Rattle.std.specs.Prelude.{◌≡◌, true, List, ℕ, ◌+◌, ◌*◌, ◌≤◌, length, set, Option}
use Rattle.kernel.specs.declared.Kernel.{Kernel}
use Rattle.kernel.specs.declared.Phase.{Phase}
use Rattle.kernel.specs.declared.Step.{Step}
use Rattle.kernel.specs.declared.Phase.TheVariants.{Control, Sample}
use Rattle.kernel.specs.Lists.{sizes, words_may_run, phase_may_run}
use Rattle.tables.specs.Loops.{every}
use Rattle.memory.specs.Fit.{Fit, line_lengths, line_bases}
use Rattle.machine.specs.Machine.{Machine, machine}

-- every delay line can be read and stored to at its cursor
pub record Lines (delays bases area cursors : List ℕ) : Type 0 where
  pub fit : Fit (line_lengths delays) area cursors
  pub based : bases ≡ line_bases delays

-- the control and the spill table hold the slots that the kernel declares
pub record Slotted (k : Kernel) (control spills : List ℕ) : Type 0 where
  pub slots : k.slots ≤ length control
  pub spilled : k.spills ≤ length spills

-- the tables hold what the kernel declares
pub record Ready (k : Kernel) (instructions delays bases control spills area cursors : List ℕ) : Type 0 where
  pub code : 2 * k.instructions ≤ length instructions
  pub slotted : Slotted k control spills
  pub lines : Lines delays bases area cursors

-- words that may run as a step of a phase, where so many parameters, states and delays are lent
pub record MayRun (p s d : ℕ) (k : Kernel) (instructions : List ℕ) (phase : Phase) (w : Option Step) : Type 0 where
  pub may : words_may_run (sizes p s d k) instructions phase w ≡ true

-- the steps of a phase may: count steps of a table, from first on
pub record Listed (p s d : ℕ) (k : Kernel) (steps instructions : List ℕ) (phase : Phase) (first count : ℕ) : Type 0 where
  pub whole : 2 * (first + count) ≤ length steps
  pub each : every (phase_may_run (sizes p s d k) steps instructions phase first) count ≡ true

-- ---- "The slots of the running phase are handed back as a part of either the control or the spill table."
abbrev pub slot_table : Phase → List ℕ → List ℕ → List ℕ
slot_table Control control spills = control
slot_table Sample control spills = spills

abbrev pub slot_count : Phase → Kernel → ℕ
slot_count Control k = k.slots
slot_count Sample k = k.spills

pub record Slots : Type 0 where
  pub control : List ℕ
  pub spills : List ℕ

abbrev pub slots : List ℕ → List ℕ → Slots
slots control spills = record { control = control; spills = spills }

-- both tables after a store among the slots of a phase
abbrev pub slot_stored : Phase → List ℕ → List ℕ → ℕ → ℕ → Slots
slot_stored Control control spills slot v = slots (set control slot v) spills
slot_stored Sample control spills slot v = slots control (set spills slot v)

-- ---- how long the machine's tables are; no step changes it
pub record Lengths : Type 0 where
  pub control : ℕ
  pub spills : ℕ
  pub states : ℕ
  pub area : ℕ
  pub cursors : ℕ

abbrev pub lengths_of : Machine → Lengths
lengths_of m =
    record {
      control = length m.control;
      spills = length m.spills;
      states = length m.memories.states;
      area = length m.memories.area;
      cursors = length m.memories.cursors;
    }

-- the machine after another number of steps executed
abbrev pub counting : Machine → ℕ → Machine
counting m n = machine m.registers m.control m.spills m.memories m.output n
