-- The structs that a run hands down, as the values that the definitions speak of, and what the functions of a phase require of them. Definitions alone.
use Rattle.std.specs.Prelude.{◌≡◌, List, ℕ, length, Option}
use Rattle.kernel.specs.declared.Phase.{Phase}
use Rattle.kernel.specs.declared.Step.{Step}
use Rattle.kernel.specs.declared.Sizes.{Sizes}
use Rattle.kernel.specs.Lists.{sizes}
use Rattle.memory.specs.declared.signals.Given as given
use Rattle.memory.specs.declared.lines.Memories as memory
use Rattle.memory.specs.Lent.{the_lengths, the_memories}
use Rattle.machine.specs.declared.steps.Program as program
use Rattle.machine.specs.declared.steps.Slots as slot
use Rattle.machine.specs.Machine as machines
use Rattle.machine.specs.Ready as ready

abbrev pub the_program : program.Program → machines.Program
the_program p = machines.program (the_lengths p.lines) p.code.instructions.now

abbrev pub the_slots : slot.Slots → ready.Slots
the_slots s = ready.slots s.control.now s.spills.now

-- the registers, the slots, the memories, the output word, and how many steps have been executed
abbrev pub the_machine : List ℕ → slot.Slots → memory.Memories → ℕ → ℕ → machines.Machine
the_machine registers s m output executed = machines.machine registers s.control.now s.spills.now (the_memories m) output executed

-- as many parameters, states and delays as the tables hold
abbrev pub the_sizes : program.Program → given.Given → memory.Memories → Sizes
the_sizes p x m = sizes (length x.settings.now) (length m.held.now) (length m.cursors.now) p.code.kernel

-- the struct holds the same tables as before
pub record KeepsSlots (old new : slot.Slots) : Type 0 where
  pub control : new.control.ghost_name ≡ old.control.ghost_name
  pub spills : new.spills.ghost_name ≡ old.spills.ghost_name

abbrev pub IsReady : program.Program → slot.Slots → memory.Memories → Type 0
IsReady p s m = ready.Ready p.code.kernel p.code.instructions.now p.lines.delays.now p.lines.bases.now s.control.now s.spills.now m.area.now m.cursors.now

abbrev pub MayRunHere : program.Program → given.Given → memory.Memories → Phase → Option Step → Type 0
MayRunHere p x m phase w = ready.MayRun (length x.settings.now) (length m.held.now) (length m.cursors.now) p.code.kernel p.code.instructions.now phase w

abbrev pub IsListed : program.Program → given.Given → memory.Memories → Phase → ℕ → ℕ → Type 0
IsListed p x m phase first count =
    ready.Listed (length x.settings.now) (length m.held.now) (length m.cursors.now) p.code.kernel p.code.steps.now p.code.instructions.now phase first count
