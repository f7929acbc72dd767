-- What the structs of src/ lend, as the records that the other definitions speak of, and what a function that is lent memories keeps.
use Rattle.std.specs.Prelude.{◌≡◌, List, ℕ}
use Rattle.memory.specs.declared.lines.Lines as LentLines
use Rattle.memory.specs.declared.lines.Memories as LentMemories
use Rattle.memory.specs.declared.signals.Signals as LentSignals
use Rattle.memory.specs.declared.signals.Given as LentGiven
use Rattle.memory.specs.Fit.{line_lengths, Fit}
use Rattle.memory.specs.Lines.{Memories, memories}
use Rattle.memory.specs.Signals.{Given, given, Signals, signals}

-- the lengths of the lines that are lent
abbrev pub the_lengths : LentLines.Lines → List ℕ
the_lengths l = line_lengths l.delays.now

-- the memories, the signals and what a sample reads, as they are lent
abbrev pub the_memories : LentMemories.Memories → Memories
the_memories m = memories m.held.now m.area.now m.cursors.now

abbrev pub the_signals : LentSignals.Signals → Signals
the_signals s = signals s.settings.now s.input.now s.network.now

abbrev pub the_given : LentGiven.Given → Given
the_given x = given x.audio x.network x.settings.now

-- these lines lie in the area, and every cursor in its line
abbrev pub LinesFit : LentLines.Lines → LentMemories.Memories → Type 0
LinesFit l m = Fit (the_lengths l) m.area.now m.cursors.now

-- the struct lends the same three tables as before, so whoever made it finds in his own what `the_memories` says
pub record KeepsTables (old new : LentMemories.Memories) : Type 0 where
  pub held : new.held.ghost_name ≡ old.held.ghost_name
  pub area : new.area.ghost_name ≡ old.area.ghost_name
  pub cursors : new.cursors.ghost_name ≡ old.cursors.ghost_name
