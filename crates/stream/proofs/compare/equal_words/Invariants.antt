use mathlib.Core.Path.{◌≡◌}
use Rattle.stream.specs.Compare.{first_of, words_differ}
use Rattle.stream.proofs.compare.equal_words.Given as goal

abbrev pub invariant-loop-i : goal.invariant-loop-i
invariant-loop-i l = first_of (words_differ l.a l.b l.from) l.i ≡ l.i
