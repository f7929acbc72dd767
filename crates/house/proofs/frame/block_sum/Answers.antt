-- `block_sum`: before turn i the sum is that of the first i words. Assumes nothing.
use Rattle.std.proofs.Common.{refl}
use Rattle.house.specs.BytesLaws.{wrapping_start, wrapping_next}
use Rattle.house.proofs.frame.block_sum.Goals as goal

pub loop-i-init : goal.loop-i-init
loop-i-init c = wrapping_start _

pub loop-i-preserved : goal.loop-i-preserved
loop-i-preserved c = wrapping_next _ c.loop-i.i _ _ _ c.loop-i.invariant c.block_word-sum.ensures refl
