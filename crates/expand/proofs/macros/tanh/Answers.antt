-- `tanh`: input, numerator, denominator, reciprocal and quotient, each right behind the one before. Assumes nothing.
use native.Mathlib.Omega.{arith}
use Prim.Native.Nat.{◌+◌}
use Rattle.expand.specs.Lengths.{recip_length_lem}
use Rattle.expand.specs.Writes.{join}
use Rattle.expand.specs.Macros.{tanh}
use Rattle.expand.proofs.macros.tanh.Goals as goal

pub returns : goal.returns
unfolding tanh
returns c = join _ _ _ _ (join _ _ _ _ (join _ _ _ _ (join _ _ _ _ c.tanh_input.ensures c.tanh_numerator.ensures (omega (arith, recip_length_lem c.args.steps (c.args.k + 26) (c.args.k + 25)))) c.tanh_denominator.ensures (omega (arith, recip_length_lem c.args.steps (c.args.k + 26) (c.args.k + 25)))) c.recip.ensures (omega (arith, recip_length_lem c.args.steps (c.args.k + 26) (c.args.k + 25)))) c.put.ensures (omega (arith, recip_length_lem c.args.steps (c.args.k + 26) (c.args.k + 25)))
