-- `Sizes::step_may_run`: the three tests in turn are the conjunction. Assumes nothing.
use Rattle.std.proofs.Common.{rules}
use Rattle.tables.specs.Tests.{◌&◌}
use Rattle.kernel.specs.Lists.{step_may_run}
use Rattle.kernel.proofs.Sizes.step_may_run.Goals as goal

pub returns-then-index_inside : goal.returns-then-index_inside
unfolding step_may_run ◌&◌
returns-then-index_inside c = search rules

pub returns-else-index_inside : goal.returns-else-index_inside
unfolding step_may_run ◌&◌
returns-else-index_inside c = search rules
