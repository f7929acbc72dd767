-- `memories_fit`: each way out is one part of the definition's conjunction. Assumes nothing.
use Rattle.std.proofs.Common.{rules}
use Rattle.tables.specs.Tests.{◌&◌}
use Rattle.memory.specs.Sizes.{memories_fit}
use Rattle.memory.proofs.sizes.memories_fit.Goals as goal

pub returns-then-cursors-block : goal.returns-then-cursors-block
unfolding memories_fit ◌&◌
returns-then-cursors-block c = search rules

pub returns-else-cursors-block : goal.returns-else-cursors-block
unfolding memories_fit ◌&◌
returns-else-cursors-block c = search rules
