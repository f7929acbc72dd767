use mathlib.Core.Path.{◌≡◌}
use Rattle.tables.specs.Loops.{sum}
use Rattle.block.specs.Block.{delay_length}
use Rattle.memory.specs.Lines.{line_base}
use Rattle.memory.specs.Fit.{line_lengths}
use Rattle.tables.specs.Lists.{filled}
use Rattle.tables.specs.Zeros.{zeros}
use Rattle.block.specs.Limits.{most_delays}
use Rattle.memory.proofs.lines.fill_bases.Given as goal

abbrev pub invariant-loop-i : goal.invariant-loop-i
invariant-loop-i l =
    (l.base ≡ sum (delay_length l.delays) l.i) × (l.bases ≡ filled (line_base (line_lengths l.delays)) l.i (zeros most_delays))
