-- `walk_sample`: each way out is a case of `sample_from`. Assumes nothing.
use Rattle.checker.specs.WalkLaws.{ready_entered, sample_stop, sample_missing, sample_done}
use mathlib.Core.Path.{refl}
use mathlib.Core.Path.{ap}
use mathlib.Core.Bool.{not}
use Rattle.checker.proofs.walk.walk_sample.Goals as goal

pub walk-requires : goal.walk-requires
walk-requires c = (ready_entered _ _ _ _ _ _ _ c.enter.ensures c.requires.0, c.requires.1)

pub returns-in_err-walk : goal.returns-in_err-walk
returns-in_err-walk c = sample_stop _ _ _ _ _ _ _ _ _ _ c.requires.0 c.enter.ensures c.walk.ensures _ c.in_err-walk.was c.from_residual.ensures.1

pub returns-then-not-nothing_missing : goal.returns-then-not-nothing_missing
returns-then-not-nothing_missing c = sample_missing _ _ _ _ _ _ _ _ _ _ c.requires.0 c.enter.ensures c.walk.ensures c.in_ok-walk.was c.nothing_missing.ensures _ (ap not c.if-not-nothing_missing.true) refl

pub returns : goal.returns
returns c = sample_done _ _ _ _ _ _ _ _ _ _ c.requires.0 c.enter.ensures c.walk.ensures c.in_ok-walk.was c.nothing_missing.ensures (ap not c.if-not-nothing_missing.false)
