-- `payload_length` reads the last block's used count. Assumes nothing.
use Rattle.house.specs.FrameLaws.{payload_length_at}
use Rattle.house.proofs.payload.payload_length.Goals as goal

pub returns : goal.returns
returns c = payload_length_at _ _ c.block_word-used.ensures
