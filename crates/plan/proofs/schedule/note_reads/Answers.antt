-- `note_reads`: what each read asks for. Assumes nothing.
use native.Mathlib.Omega.{arith}
use Rattle.plan.specs.Layout.{room_in}
use Rattle.plan.specs.Words.{operands_before}
use Rattle.plan.specs.LastLaws.{read_again}
use Rattle.plan.proofs.schedule.note_reads.Goals.{then-count-gt0, else-count-gt0}
use Rattle.plan.proofs.schedule.note_reads.Goals as goal

pub note_read-requires : goal.note_read-requires
note_read-requires c = (room_in _ _ _ c.requires.0, c.requires.1, omega (arith, c.first.ensures.value, (operands_before _ _ _ c.requires.0 _ c.requires.2).0 (omega (arith, c.operand_count-count.ensures, c.if-count-gt0.true)), c.requires.2), c.requires.2)

pub note_read-requires-then-count-gt1 : goal.note_read-requires-then-count-gt1
note_read-requires-then-count-gt1 c = elim c.if-count-gt0.branch [ then-count-gt0 w ↦ rw w.work-is (let r = read_again _ _ _ _ _ (room_in _ _ _ c.requires.0) c.requires.1 w.note_read.ensures in (r.0, r.1, omega (arith, c.second.ensures, (operands_before _ _ _ c.requires.0 _ c.requires.2).1 (omega (arith, c.operand_count-count.ensures, c.if-count-gt1.true)), c.requires.2), c.requires.2)) | else-count-gt0 w ↦ absurd (omega (arith, w.if-count-gt0.false, c.if-count-gt1.true)) ]
