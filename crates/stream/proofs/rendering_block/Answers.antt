-- `rendering_block` puts one block of the engine's kind. Assumes nothing.
use Rattle.stream.specs.Written.{block_written}
use Rattle.stream.proofs.rendering_block.Goals as goal

pub returns : goal.returns
returns c = block_written c.args.engine c.args.number c.args.words.now c.args.bytes.now _ _ _ c.from.ensures c.padded-payload.ensures c.put_block.ensures
