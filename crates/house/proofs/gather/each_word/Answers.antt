-- `each_word`: before turn i the first i words are stored. Assumes nothing.
use Rattle.std.proofs.Common.{refl, ap, ◌∙◌, arith}
use Rattle.tables.specs.Lists.{list_of, filled_start, filled_next, filled_last}
use Rattle.house.specs.File.{share_word}
use Rattle.house.proofs.gather.each_word.Goals as goal

pub loop-i-init : goal.loop-i-init
loop-i-init g c = (refl, filled_start (share_word (g.W.Words.words c.args.payload.now) c.args.from) _)

pub loop-i-preserved : goal.loop-i-preserved
loop-i-preserved g c =
    let v = c.loop-i.invariant in
    (v.0, rw c.word.ensures (filled_next (share_word (g.W.Words.words c.args.payload.now) c.args.from) c.loop-i.i _ _ (omega arith) v.1))

pub returns : goal.returns
returns g c =
    let v = c.loop-i.invariant in
    let f = share_word (g.W.Words.words c.args.payload.now) c.args.from in
    filled_last f c.loop-i.i _ _ (omega arith) v.1 ∙ ap (list_of f) v.0
