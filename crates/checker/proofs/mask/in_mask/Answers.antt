-- `in_mask`: a register below 16 goes by its bit. Assumes nothing.
use Rattle.std.proofs.Common.{rules}
use Rattle.tables.specs.Tests.{◌&◌}
use Rattle.checker.specs.Walk.{in_mask}
use Rattle.checker.proofs.mask.in_mask.Goals as goal

pub returns-then-register-lt16 : goal.returns-then-register-lt16
unfolding in_mask ◌&◌
returns-then-register-lt16 c = search rules

pub returns-else-register-lt16 : goal.returns-else-register-lt16
unfolding in_mask ◌&◌
returns-else-register-lt16 c = search rules
