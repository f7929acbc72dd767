use Rattle.tables.specs.Lists.{list_of}
use lib.ListN.{length, take}
use Rattle.expand.specs.Updates.{mapped_word}
use mathlib.Core.Path.{◌≡◌}
use Rattle.expand.proofs.map.mapped_updates.Given as goal

abbrev pub invariant-loop-i : goal.invariant-loop-i
invariant-loop-i l = (length l.updates ≡ 4096) × (take l.i l.updates ≡ list_of (mapped_word l.map l.memories) l.i)
