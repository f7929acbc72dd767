-- `sigmoid`: two nodes, the tanh and two nodes, each right behind the one before. Assumes nothing.
use native.Mathlib.Omega.{arith}
use Prim.Native.Nat.{◌+◌}
use Rattle.expand.specs.Lengths.{tanh_length_lem}
use Rattle.expand.specs.Writes.{join}
use Rattle.expand.specs.Macros.{sigmoid}
use Rattle.expand.proofs.macros.sigmoid.Goals as goal

pub returns : goal.returns
unfolding sigmoid
returns c = join _ _ _ _ (join _ _ _ _ (join _ _ _ _ c.put.ensures c.put-2.ensures (omega arith)) c.tanh.ensures (omega arith)) (join _ _ _ _ c.put-3.ensures c.put-4.ensures (omega arith)) (omega (arith, tanh_length_lem c.args.steps (c.args.k + 2) (c.args.k + 1)))
