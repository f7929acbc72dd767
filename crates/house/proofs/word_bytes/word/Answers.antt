-- `word` reads four bytes. Assumes nothing.
use Rattle.std.proofs.Common.{arith}
use Rattle.house.specs.Bytes.{word_from}
use Rattle.house.proofs.word_bytes.word.Goals as goal

pub returns : goal.returns
unfolding word_from
returns c = omega (arith, c.from_le_bytes.ensures)
