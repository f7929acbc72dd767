-- `drop_slot`: a slot that is no hoisted value's own. The check finds it alone; written out, since the edit that frees such a slot has to fail here. Assumes nothing.
use Rattle.std.proofs.Common.{arith}
use Rattle.allocate.specs.DeskLaws.{slot_freed}
use Rattle.allocate.proofs.Desk.drop_slot.Goals as goal

pub returns-clause-done : goal.returns-clause-done
returns-clause-done c =
    let some = rw c.spilled_at-at.ensures at c.if-slot-eq0.false in
    let high = rw c.spilled_at-at.ensures at c.if-slot-frame.false in
    rw (c.spilled_at-at.ensures, c.freed_at-top.ensures) (slot_freed _ _ _ some (omega (arith, high)))
