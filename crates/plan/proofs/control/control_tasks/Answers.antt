-- `control_tasks`: before turn i the tasks of the first i nodes stand written. Assumes nothing.
use mathlib.Core.Path.{refl}
use native.Mathlib.Omega.{arith}
use Rattle.plan.specs.ControlLaws.{controls_start, control_most, controls_next, controls_end}
use Rattle.plan.proofs.control.control_tasks.Goals as goal

pub loop-i-init : goal.loop-i-init
loop-i-init c = (refl, omega arith, controls_start _ _ _)

pub push_control-tasks-requires : goal.push_control-tasks-requires
push_control-tasks-requires c = (rw c.loop-i.invariant.0 c.requires, c.loop-i-test.true, c.loop-i.invariant.1)

pub loop-i-preserved : goal.loop-i-preserved
loop-i-preserved c = (omega (arith, c.loop-i.invariant.0), omega (arith, c.loop-i.invariant.1, c.push_control-tasks.ensures.0, control_most c.args.flow.now.sizes.nodes c.args.flow.now.nodes.now c.loop-i.work c.loop-i.i), controls_next _ _ _ _ _ _ _ _ c.requires c.loop-i-test.true c.loop-i.invariant.2 c.push_control-tasks.ensures)

pub returns : goal.returns
returns c = controls_end _ _ _ _ _ c.loop-i.i (omega arith) c.loop-i.invariant.2
