-- `invariance`: before turn i the flags of the first i nodes stand written. Assumes nothing.
use mathlib.Core.Path.{refl}
use native.Mathlib.Omega.{arith}
use lib.ListN.{length-set}
use Rattle.plan.specs.HoistLaws.{invariance_start, invariance_next}
use Rattle.plan.proofs.hoist.invariance.Goals as goal

pub loop-i-init : goal.loop-i-init
loop-i-init c = (refl, invariance_start c.args.flow.now.nodes.now _)

pub invariant_word-requires : goal.invariant_word-requires
invariant_word-requires c = (rw c.loop-i.invariant.0 c.requires, c.loop-i-test.true)

pub offset_bounds-work-i : goal.offset_bounds-work-i
offset_bounds-work-i c = omega (arith, c.loop-i.invariant.0, c.requires.room)

pub bounds-work-i : goal.bounds-work-i
bounds-work-i c = omega (arith, c.loop-i.invariant.0, c.requires.room)

pub loop-i-preserved : goal.loop-i-preserved
loop-i-preserved c = (simp length-set c.loop-i.invariant.0, invariance_next _ _ _ c.requires _ c.loop-i-test.true _ _ _ refl c.loop-i.invariant.1 c.invariant_word.ensures)
