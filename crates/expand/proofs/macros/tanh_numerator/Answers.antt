-- `tanh_numerator`: three Horner steps and a product, each right behind the one before. Assumes nothing.
use native.Mathlib.Omega.{arith}
use Rattle.expand.specs.Writes.{join}
use Rattle.expand.proofs.macros.tanh_numerator.Goals as goal

pub returns : goal.returns
returns c = join _ _ _ _ (join _ _ _ _ (join _ _ _ _ c.mul_add.ensures c.mul_add-2.ensures (omega arith)) c.mul_add-3.ensures (omega arith)) c.put.ensures (omega arith)
