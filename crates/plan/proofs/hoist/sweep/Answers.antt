-- `sweep`: at each turn what is left of the sweep is done from the marks made so far. Assumes nothing.
use mathlib.Core.Path.{refl}
use native.Mathlib.Omega.{arith}
use Rattle.plan.specs.HoistLaws.{sweep_start, sweep_next, sweep_end}
use Rattle.plan.proofs.hoist.sweep.Goals as goal

pub loop-i-init : goal.loop-i-init
loop-i-init c = (refl, sweep_start _ _ _ _ _)

pub sweep_node-requires : goal.sweep_node-requires
sweep_node-requires c = (rw c.loop-i.invariant.0 c.requires.0, omega (arith, c.loop-i-test.true), c.requires.2)

pub loop-i-preserved : goal.loop-i-preserved
loop-i-preserved c = (omega (arith, c.loop-i.invariant.0), sweep_next _ _ _ _ _ _ _ _ c.loop-i.i c.requires.0 (omega (arith, c.loop-i-test.true)) (omega arith) c.requires.1 c.requires.2 c.loop-i.invariant.1 c.sweep_node.ensures)

pub returns : goal.returns
returns c = sweep_end _ _ _ _ _ _ c.loop-i.i (omega arith) c.loop-i.invariant.1
