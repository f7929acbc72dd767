use Rattle.std.proofs.Common.{◌≡◌}
use Rattle.tables.specs.Lists.{list_of}
use Rattle.house.specs.Bytes.{wrapping_sum}
use Rattle.house.specs.Frame.{block_word}
use Rattle.house.proofs.frame.block_sum.Given as goal

abbrev pub invariant-loop-i : goal.invariant-loop-i
invariant-loop-i l = l.sum ≡ wrapping_sum (list_of (block_word l.bytes l.number) l.i)
