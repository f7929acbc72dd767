-- `classes::has_keys` meets its contract. Assumes nothing.
use borrow.Author.Rules.{rules}
use Rattle.tables.specs.Tests.{◌&◌}
use Rattle.classes.specs.Index.{keys_at}
use Rattle.classes.proofs.has_keys.Goals as goal

pub returns-then-work-at : goal.returns-then-work-at
unfolding keys_at ◌&◌
returns-then-work-at c = search rules

pub returns-else-work-at : goal.returns-else-work-at
unfolding keys_at ◌&◌
returns-else-work-at c = search rules
