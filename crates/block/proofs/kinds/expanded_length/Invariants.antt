use mathlib.Core.Path.{◌≡◌}
use Prim.Native.Nat.{◌≤◌}
use Rattle.block.specs.Kinds.{tanh_steps, offset}
use Rattle.block.proofs.kinds.expanded_length.Given as goal

abbrev pub invariant-loop-i : goal.invariant-loop-i
invariant-loop-i l = ((l.total ≡ offset tanh_steps l.nodes l.i) × (l.total ≤ 65536))
