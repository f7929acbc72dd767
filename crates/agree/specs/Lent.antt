-- The tables that the checked run is lent, as the record that the definitions speak of. Definitions alone.
use Rattle.std.specs.Prelude.{List, ℕ}
use Rattle.memory.specs.Signals.{rendered}
use Rattle.memory.specs.declared.lines.Memories as memory
use Rattle.memory.specs.Lent.{the_memories}
use Rattle.machine.specs.declared.steps.Slots as slot
use Rattle.agree.specs.Checked.{Tables, tables}

abbrev pub the_tables : List ℕ → List ℕ → slot.Slots → memory.Memories → List ℕ → List ℕ → Tables
the_tables expansion work s m output registers = tables expansion work s.control.now s.spills.now (rendered output (the_memories m)) registers
