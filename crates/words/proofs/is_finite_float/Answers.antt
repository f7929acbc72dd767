-- `is_finite_float`: above minus infinity and below infinity are the finite floats alone (`finite_above`, `finite_below`). Assumes nothing.
use Rattle.std.proofs.Common.{◌∙◌}
use Rattle.std.specs.Float.Ieee.{of_bits, neg}
use Rattle.words.specs.Laws.{finite_above, finite_below}
use Rattle.words.proofs.is_finite_float.Goals as goal

pub returns-then-x : goal.returns-then-x
unfolding of_bits neg
returns-then-x c = finite_above _ c.if-x.true

pub returns-else-x : goal.returns-else-x
unfolding of_bits neg
returns-else-x c = c.if-x.false ∙ finite_below _ c.if-x.false
