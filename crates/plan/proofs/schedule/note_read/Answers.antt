-- `note_read`: the first node is a node. Assumes nothing.
use native.Mathlib.Omega.{arith}
use Rattle.plan.specs.LastLaws.{canonicals_at}
use Rattle.plan.proofs.schedule.note_read.Goals as goal

pub bounds-work-last : goal.bounds-work-last
bounds-work-last c = rw (c.canonical.ensures, c.last.ensures) (omega (arith, canonicals_at _ _ _ c.requires.1 c.requires.2, c.requires.0.small, c.requires.0.room))
