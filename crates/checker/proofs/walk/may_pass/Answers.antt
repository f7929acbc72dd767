-- `may_pass`: each test is one of the definition, in its order. Assumes nothing.
use Rattle.std.proofs.Common.{rules}
use Rattle.tables.specs.Tests.{◌&◌}
use Rattle.checker.specs.WalkLaws.{may_pass}
use Rattle.checker.proofs.walk.may_pass.Goals as goal

pub returns-then-step_in_mask : goal.returns-then-step_in_mask
unfolding may_pass ◌&◌
returns-then-step_in_mask c = search rules

pub returns-else-step_in_mask : goal.returns-else-step_in_mask
unfolding may_pass ◌&◌
returns-else-step_in_mask c = search rules
