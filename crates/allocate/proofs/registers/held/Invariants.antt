use mathlib.Core.Path.{◌≡◌}
use Prim.Native.Nat.{◌≤◌}
use Rattle.allocate.specs.Registers.{held_of}
use Rattle.allocate.proofs.registers.held.Given as goal

abbrev pub invariant-loop-r : goal.invariant-loop-r
invariant-loop-r l = (l.count ≤ l.r) × (l.count ≡ held_of l.r l.owner)
