-- `first_word` reads a payload word of the first block. Assumes nothing.
use Rattle.house.specs.FrameLaws.{payload_first}
use Rattle.house.proofs.payload.first_word.Goals as goal

pub returns : goal.returns
returns c = payload_first _ _ _ c.requires.1 c.block_word.ensures
