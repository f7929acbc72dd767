-- `copy_words`: before turn i the first i words are stored from `to` on. Assumes nothing.
use Rattle.house.specs.Generic.{stores_next, stores_start}
use Rattle.house.specs.Bytes.{words_from}
use Rattle.house.proofs.payload.copy_words.Goals as goal

pub loop-i-init : goal.loop-i-init
loop-i-init c = stores_start (words_from c.args.bytes.now c.args.at) _ _

pub loop-i-preserved : goal.loop-i-preserved
loop-i-preserved c = stores_next (words_from c.args.bytes.now c.args.at) _ c.loop-i.i _ _ _ c.loop-i.invariant c.word.ensures
