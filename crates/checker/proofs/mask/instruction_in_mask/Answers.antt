-- `instruction_in_mask`: each arm asks for the registers of its instruction. Assumes nothing.
use Rattle.std.proofs.Common.{rules}
use Rattle.tables.specs.Tests.{◌&◌}
use Rattle.checker.proofs.mask.instruction_in_mask.Goals as goal

pub returns-then-in_mask-2 : goal.returns-then-in_mask-2
unfolding ◌&◌
returns-then-in_mask-2 c = search rules

pub returns-else-in_mask-2 : goal.returns-else-in_mask-2
unfolding ◌&◌
returns-else-in_mask-2 c = search rules

pub returns-then-in_mask-3 : goal.returns-then-in_mask-3
unfolding ◌&◌
returns-then-in_mask-3 c = search rules

pub returns-else-in_mask-3 : goal.returns-else-in_mask-3
unfolding ◌&◌
returns-else-in_mask-3 c = search rules
