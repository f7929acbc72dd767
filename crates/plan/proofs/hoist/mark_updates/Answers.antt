-- `mark_updates`: before each turn the updates so far are marked. Assumes nothing.
use native.Mathlib.Omega.{arith}
use Rattle.plan.specs.RootLaws.{updates_next}
use Rattle.plan.proofs.hoist.mark_updates.Goals as goal

pub mark_update-requires : goal.mark_update-requires
mark_update-requires c = omega (arith, c.requires.0 c.loop-update.update-index, c.requires.1, c.loop-update.invariant.0, c.needed.ensures)

pub loop-update-preserved : goal.loop-update-preserved
loop-update-preserved c = (omega (arith, c.loop-update.invariant.0), updates_next _ _ _ _ _ c.loop-update.update-index c.loop-update-test.true c.loop-update.invariant.1 (rw c.needed.ensures at c.mark_update.ensures))
