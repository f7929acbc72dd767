-- `Code::list_may_run`: no sample steps, a control step that may not run, else the sample steps decide. Assumes nothing.
use Rattle.std.proofs.Common.{rules}
use Rattle.tables.specs.Tests.{◌&◌}
use Rattle.kernel.specs.Lists.{list_may_run}
use Rattle.kernel.proofs.Code.list_may_run.Goals as goal

pub returns-then-phase_may_run : goal.returns-then-phase_may_run
unfolding list_may_run ◌&◌
returns-then-phase_may_run c = search rules

pub returns-else-phase_may_run : goal.returns-else-phase_may_run
unfolding list_may_run ◌&◌
returns-else-phase_may_run c = search rules
