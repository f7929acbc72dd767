-- `write_initial`: before turn i the first i words are the initial ones. Assumes nothing.
use native.Mathlib.Omega.{arith}
use Rattle.block.specs.Block.{initial}
use Rattle.tables.specs.Lists.{filled_start, filled_next, filled_last}
use Rattle.memory.proofs.write_initial.Goals as goal

pub loop-i-init : goal.loop-i-init
loop-i-init c = filled_start _ _

pub loop-i-preserved : goal.loop-i-preserved
loop-i-preserved c = filled_next (initial c.args.states.now) c.loop-i.i _ _ c.loop-i-test.true c.loop-i.invariant

pub returns : goal.returns
returns c = filled_last _ c.loop-i.i _ _ (omega arith) c.loop-i.invariant
