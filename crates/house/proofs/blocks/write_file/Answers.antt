-- `write_file`: before turn b the bytes of the first b blocks stand in the buffer (specs/FileLaws). Assumes nothing.
use Rattle.house.specs.FileLaws.{going_start, going_next, going_end}
use Rattle.house.proofs.blocks.write_file.Goals as goal

pub loop-b-init : goal.loop-b-init
loop-b-init g c = going_start c.args.kind (g.P.Words.words c.args.payload.now) _ _ _ c.requires.counts c.blocks_for-b-end.ensures c.requires.small c.requires.room

pub loop-b-preserved : goal.loop-b-preserved
loop-b-preserved g c = going_next c.args.kind (g.P.Words.words c.args.payload.now) _ _ _ _ c.loop-b.b c.loop-b.invariant c.loop-b-test.true _ _ _ c.used_words-used.ensures c.share-share.ensures c.put_block.ensures

pub returns : goal.returns
returns g c = going_end c.args.kind (g.P.Words.words c.args.payload.now) _ _ _ _ c.loop-b.b c.loop-b.invariant c.loop-b-test.false
