-- `divide`: the reciprocal, and the product right behind it. Assumes nothing.
use native.Mathlib.Omega.{arith}
use Rattle.expand.specs.Lengths.{recip_length_lem}
use Rattle.expand.specs.Writes.{join}
use Rattle.expand.specs.Macros.{divide}
use Rattle.expand.proofs.macros.divide.Goals as goal

pub returns : goal.returns
unfolding divide
returns c = join _ _ _ _ c.recip.ensures c.put.ensures (omega (arith, recip_length_lem c.args.steps c.args.k c.args.rhs))
