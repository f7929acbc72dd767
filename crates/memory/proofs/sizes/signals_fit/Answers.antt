-- `signals_fit`: each way out is one part of the definition's conjunction. Assumes nothing.
use Rattle.std.proofs.Common.{rules}
use Rattle.tables.specs.Tests.{◌&◌}
use Rattle.memory.specs.Sizes.{signals_fit}
use Rattle.memory.proofs.sizes.signals_fit.Goals as goal

pub returns-then-header-eq0 : goal.returns-then-header-eq0
unfolding signals_fit ◌&◌
returns-then-header-eq0 c = search rules

pub returns-else-header-eq0 : goal.returns-else-header-eq0
unfolding signals_fit ◌&◌
returns-else-header-eq0 c = search rules

pub returns-else-output-input : goal.returns-else-output-input
unfolding signals_fit ◌&◌
returns-else-output-input c = search rules
