-- `compute`: there is room for the instruction. Assumes nothing.
use Rattle.std.proofs.Common.{arith}
use Rattle.allocate.specs.TaskReady.{destined_then}
use Rattle.allocate.proofs.Desk.compute.Goals as goal

pub emit_instruction-requires : goal.emit_instruction-requires
emit_instruction-requires c =
    let q = c.requires in
    let t = destined_then _ _ q.ready.0 _ q.ready.1.0 _ _ _ q.one_bound.0.0 q.one_bound.0.1 q.ready.1.1 q.one_bound.1.0 _ c.in_ok-register.ensures.done in
    record { steps = t.0.steps; instructions = t.0.instructions; few = omega (arith, t.0.few) }
