-- `push_control`: room for its two words; and both, which the check finds alone: written out, since the edit that loses the second has to fail here. Assumes nothing.
use mathlib.Core.Path.{ap}
use mathlib.Core.Bool.{not}
use native.Mathlib.Omega.{arith}
use lib.ListN.{length-set}
use Rattle.plan.specs.ControlLaws.{push_two}
use Rattle.plan.proofs.control.push_control.Goals as goal

pub bounds-work-at-3 : goal.bounds-work-at-3
bounds-work-at-3 c = simp length-set (omega (arith, c.requires.0.room, c.tasks.ensures))

pub returns : goal.returns
returns c = rw c.tasks.ensures (push_two _ _ _ _ _ _ c.is_control.ensures (ap not c.if-not-is_control.false) (rw c.slots.ensures at c.if-work-slots-eq0.false))
