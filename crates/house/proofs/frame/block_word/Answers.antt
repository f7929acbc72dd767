-- `block_word` reads the word at its place. Assumes nothing.
use Rattle.house.specs.FrameLaws.{block_word_at}
use Rattle.house.proofs.frame.block_word.Goals as goal

pub returns : goal.returns
returns c = block_word_at _ _ _ _ c.word.ensures
