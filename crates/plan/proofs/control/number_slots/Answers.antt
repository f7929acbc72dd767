-- `number_slots`: before turn i the first i nodes have their slots. Assumes nothing.
use mathlib.Core.Path.{refl}
use native.Mathlib.Omega.{arith}
use Rattle.plan.specs.ControlLaws.{home_in, numbers_start, numbers_few, numbers_next, numbers_end}
use Rattle.plan.proofs.control.number_slots.Goals as goal

pub loop-i-init : goal.loop-i-init
loop-i-init c = (refl, omega arith, numbers_start _ _ _)

pub number_slot-slots-requires : goal.number_slot-slots-requires
number_slot-slots-requires c = (rw c.loop-i.invariant.0 c.requires, c.loop-i-test.true, c.loop-i.invariant.1)

pub loop-i-preserved : goal.loop-i-preserved
loop-i-preserved c = (omega (arith, c.loop-i.invariant.0), numbers_few (home_in c.args.flow.now.sizes.nodes c.args.flow.now.nodes.now c.loop-i.work c.loop-i.i) _ _ _ c.loop-i.invariant.1 c.number_slot-slots.ensures.0, numbers_next _ _ _ _ _ _ _ _ c.requires c.loop-i-test.true c.loop-i.invariant.2 c.number_slot-slots.ensures)

pub returns : goal.returns
returns c = numbers_end _ _ _ _ _ c.loop-i.i (omega arith) c.loop-i.invariant.2
