use Rattle.std.proofs.Common.{◌≡◌, ◌-◌, ◌≤◌, length}
use Rattle.tables.specs.Zeros.{copied}
use Rattle.house.specs.Frame.{section}
use Rattle.house.proofs.payload.copy_section.Given as goal

abbrev pub invariant-loop-i : goal.invariant-loop-i
invariant-loop-i l = (l.i ≤ l.count) × ((length l.table ≡ length l.initial.table) × (l.table ≡ copied (section l.bytes l.from l.i) l.initial.table))

abbrev pub decreases-loop-i : goal.decreases-loop-i
decreases-loop-i l = l.count - l.i
