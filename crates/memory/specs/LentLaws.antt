-- What is within reach in lent memories; a function that keeps the lent tables, and the next one. Assumes nothing.
use Rattle.std.specs.Prelude.{refl, List, ℕ, ◌<◌, length}
use Rattle.std.proofs.Common.{◌∙◌}
use Rattle.memory.specs.declared.lines.Lines as LentLines
use Rattle.memory.specs.declared.lines.Memories as LentMemories
use Rattle.memory.specs.Fit.{line_lengths, Fit, Reach}
use Rattle.memory.specs.Lent.{LinesFit, KeepsTables}

-- a line is within reach where the lines fit
pub within_reach : (l : LentLines.Lines) {area cursors : List ℕ} {i : ℕ} → Fit (line_lengths l.delays.now) area cursors → i < length cursors → Reach l.delays.now l.bases.now area cursors i
within_reach l f h = record { fit = f; based = l.based; inside = h }

-- a line of these memories is within reach
pub reach : (l : LentLines.Lines) (m : LentMemories.Memories) {i : ℕ} → LinesFit l m → i < length m.cursors.now → Reach l.delays.now l.bases.now m.area.now m.cursors.now i
reach l m f h = within_reach l f h

pub keeps_start : {m : LentMemories.Memories} → KeepsTables m m
keeps_start = record { held = refl; area = refl; cursors = refl }

pub keeps_next : {m n o : LentMemories.Memories} → KeepsTables m n → KeepsTables n o → KeepsTables m o
keeps_next k l = record { held = l.held ∙ k.held; area = l.area ∙ k.area; cursors = l.cursors ∙ k.cursors }
