-- `put_words`: before turn i the bytes of the first i words stand from `at` on. Assumes nothing.
use Rattle.std.proofs.Common.{refl, arith}
use Rattle.house.specs.BytesLaws.{put_start, put_next}
use Rattle.house.proofs.blocks.put_words.Goals as goal

pub loop-i-init : goal.loop-i-init
loop-i-init c = put_start c.args.words.now _ _

pub loop-i-preserved : goal.loop-i-preserved
loop-i-preserved c = put_next c.args.words.now _ _ _ _ c.loop-i.i _ (omega arith) c.loop-i.invariant refl c.put.ensures
