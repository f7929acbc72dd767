-- `walk`: before step i all steps before it pass and the table holds what they moved (`Walking` of specs/WalkLaws). Assumes nothing.
use Rattle.checker.specs.WalkLaws.{walking_start, walking_next, walking_stop, walking_end}
use native.Mathlib.Omega.{arith}
use mathlib.Core.Path.{refl, ◌∙◌}
use mathlib.Core.Path.{ap}
use mathlib.Core.Bool.{not}
use Rattle.checker.proofs.walk.walk.Goals as goal

pub loop-i-init : goal.loop-i-init
loop-i-init c = (walking_start _ _ _ _ _ _ _ _ _ _ c.requires.0, refl)

pub overflow_add-at : goal.overflow_add-at
overflow_add-at c = omega (arith, c.requires.1, c.loop-i-test.true)

pub is_last-last-requires : goal.is_last-last-requires
is_last-last-requires c = c.loop-i-test.true

pub take_step-requires : goal.take_step-requires
take_step-requires c = (c.loop-i.invariant.0.ready, omega (arith, c.requires.1, c.loop-i-test.true))

pub returns-then-not-take_step : goal.returns-then-not-take_step
returns-then-not-take_step c = walking_stop _ _ _ _ _ _ _ _ _ _ _ _ c.loop-i.invariant.0 c.loop-i-test.true c.is_last-last.ensures _ c.take_step.ensures (ap not c.if-not-take_step.true) _ refl

pub loop-i-preserved : goal.loop-i-preserved
loop-i-preserved c = (walking_next _ _ _ _ _ _ _ _ _ _ _ _ c.loop-i.invariant.0 c.loop-i-test.true c.is_last-last.ensures _ c.take_step.ensures (ap not c.if-not-take_step.false), c.take_step.auto.work ∙ c.loop-i.invariant.1)

pub returns : goal.returns
returns c = walking_end _ _ _ _ _ _ _ _ _ _ _ _ c.loop-i.invariant.0 c.loop-i-test.false
