use Rattle.std.proofs.Common.{◌≡◌, take}
use lib.Seq.{sets}
use Rattle.house.specs.Bytes.{bytes_of}
use Rattle.house.proofs.blocks.put_words.Given as goal

abbrev pub invariant-loop-i : goal.invariant-loop-i
invariant-loop-i l = l.bytes ≡ sets l.initial.bytes l.at (bytes_of (take l.i l.words))
