-- `recip`: two constants, the estimate and the Newton steps, each right behind the one before. Assumes nothing.
use native.Mathlib.Omega.{arith}
use Rattle.expand.specs.Writes.{join}
use Rattle.expand.specs.Macros.{recip}
use Rattle.expand.proofs.macros.recip.Goals as goal

pub returns : goal.returns
unfolding recip
returns c = join _ _ _ _ (join _ _ _ _ (join _ _ _ _ c.put.ensures c.put-2.ensures (omega arith)) c.put-3.ensures (omega arith)) c.newton.ensures (omega arith)
