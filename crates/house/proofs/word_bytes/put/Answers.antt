-- `put` writes the four bytes of a word as a slice. Assumes nothing.
use Rattle.std.proofs.Common.{◌∙◌, arith}
use Rattle.house.specs.BytesLaws.{put_four}
use Rattle.house.proofs.word_bytes.put.Goals as goal

pub returns : goal.returns
returns c = put_four _ _ _ c.args.value (omega (arith, c.ranges.value)) c.requires (c.copy_from_slice.ensures.after ∙ c.to_le_bytes.ensures)
