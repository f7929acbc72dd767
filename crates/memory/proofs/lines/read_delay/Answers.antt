-- `read_delay`: base and cursor lie in the area by `reached`, and the cell there is `read_delay`'s. Assumes nothing.
use native.Mathlib.Omega.{arith}
use Rattle.memory.specs.LineLaws.{reached, cell_read}
use Rattle.memory.specs.LentLaws.{within_reach}
use Rattle.memory.proofs.lines.read_delay.Goals as goal

pub bounds-area-start : goal.bounds-area-start
bounds-area-start c = let q = reached (within_reach c.args.lines.now c.requires.fit c.requires.inside) in omega arith

pub returns : goal.returns
returns c = λ states. cell_read (within_reach c.args.lines.now c.requires.fit c.requires.inside) states
