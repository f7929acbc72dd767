-- `newton`: what is left of the steps, written from `at` on, leaves what all the steps leave. Assumes nothing.
use mathlib.Core.Path.{refl, sym, ◌∙◌}
use native.Mathlib.Omega.{arith}
use Rattle.expand.specs.Writes.{newton_turn, newton_done}
use Rattle.expand.proofs.macros.newton.Goals as goal

pub loop-left-init : goal.loop-left-init
loop-left-init c = (omega arith, (omega arith, (refl, refl)))

pub loop-left-preserved : goal.loop-left-preserved
loop-left-preserved c = (omega arith, (omega arith, (omega arith, c.loop-left.invariant.1.1.1 ∙ newton_turn _ _ _ _ _ _ _ c.loop-left-test.true c.newton_step.ensures)))

pub shape_of-table : goal.shape_of-table
shape_of-table c = c.loop-left.invariant.1.1.0

pub returns : goal.returns
returns c = sym (c.loop-left.invariant.1.1.1 ∙ newton_done _ _ _ _ _ _ c.loop-left-test.false)
