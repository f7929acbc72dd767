-- `area_fits`: the running total is the sum so far and no longer than the area; where it is longer, so is the whole sum. Assumes nothing.
use mathlib.Core.Path.{sym}
use native.Mathlib.Omega.{arith}
use Rattle.tables.specs.Loops.{sum_start, sum_turn}
use Rattle.block.specs.Block.{delay_length}
use Rattle.memory.specs.SizeLaws.{area_stop}
use Rattle.memory.proofs.sizes.area_fits.Goals as goal

pub loop-i-init : goal.loop-i-init
loop-i-init c = (sym (sum_start _), omega arith)

pub returns-then-area-total : goal.returns-then-area-total
returns-then-area-total c = sym (area_stop (delay_length c.args.delays.now) c.loop-i.i _ _ _ c.loop-i-test.true c.loop-i.invariant.0 (omega arith))

pub loop-i-preserved : goal.loop-i-preserved
loop-i-preserved c = (sum_turn _ _ _ c.loop-i.invariant.0, omega arith)
