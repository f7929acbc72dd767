use Rattle.std.proofs.Common.{◌≡◌}
use lib.Seq.{sets}
use Rattle.tables.specs.Lists.{list_of}
use Rattle.house.specs.Bytes.{words_from}
use Rattle.house.proofs.payload.copy_words.Given as goal

abbrev pub invariant-loop-i : goal.invariant-loop-i
invariant-loop-i l = l.table ≡ sets l.initial.table l.to (list_of (words_from l.bytes l.at) l.i)
