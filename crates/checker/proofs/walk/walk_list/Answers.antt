-- `walk_list`: after `prepare` nothing is held; a refusal of the control steps is handed on, else the sample steps answer. Assumes nothing.
use Rattle.checker.specs.WalkLaws.{fit_ready, fit_held, list_stop, list_on}
use native.Mathlib.Omega.{arith}
use Rattle.checker.proofs.walk.walk_list.Goals as goal

pub walk-requires : goal.walk-requires
walk-requires c = (fit_ready _ _ _ _ _ _ _ c.requires _ c.prepare.auto.work c.prepare.ensures.0, omega (arith, c.requires.listed))

pub returns-in_err-walk : goal.returns-in_err-walk
returns-in_err-walk c = list_stop _ _ _ _ _ _ _ _ _ (fit_held _ _ _ _ _ _ _ c.requires _ c.prepare.auto.work c.prepare.ensures.0 c.prepare.ensures.1) c.walk.ensures _ c.in_err-walk.was c.from_residual.ensures.1

pub returns : goal.returns
returns c = list_on _ _ _ _ _ _ _ _ _ (fit_held _ _ _ _ _ _ _ c.requires _ c.prepare.auto.work c.prepare.ensures.0 c.prepare.ensures.1) c.walk.ensures c.in_ok-walk.was _ c.walk_sample.ensures
