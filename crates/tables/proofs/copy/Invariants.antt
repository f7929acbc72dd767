use mathlib.Core.Path.{◌≡◌}
use lib.ListN.{length, take}
use Rattle.tables.specs.Zeros.{copied}
use Rattle.tables.proofs.copy.Given as goal

abbrev pub invariant-loop-i : goal.invariant-loop-i
invariant-loop-i l = (length l.to ≡ length l.initial.to) × (l.to ≡ copied (take l.i l.from) l.initial.to)
