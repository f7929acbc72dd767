-- `mul_add`: three nodes, each right behind the one before. Assumes nothing.
use native.Mathlib.Omega.{arith}
use Rattle.expand.specs.Writes.{join}
use Rattle.expand.proofs.macros.mul_add.Goals as goal

pub returns : goal.returns
returns c = join _ _ _ _ (join _ _ _ _ c.put.ensures c.put-2.ensures (omega arith)) c.put-3.ensures (omega arith)
