use Rattle.std.proofs.Common.{◌≡◌, length}
use Rattle.tables.specs.Lists.{filled}
use Rattle.house.specs.File.{share_word}
use Rattle.house.proofs.gather.each_word.Given as goal

abbrev pub invariant-loop-i : goal.invariant-loop-i
invariant-loop-i g l = (length l.initial.words ≡ 124) × (l.words ≡ filled (share_word (g.W.Words.words l.payload) l.from) l.i l.initial.words)
