use mathlib.Core.Path.{◌≡◌}
use Rattle.block.specs.Block.{initial}
use Rattle.tables.specs.Lists.{filled}
use Rattle.memory.proofs.write_initial.Given as goal

abbrev pub invariant-loop-i : goal.invariant-loop-i
invariant-loop-i l = (l.held ≡ filled (initial l.states) l.i l.initial.held)
