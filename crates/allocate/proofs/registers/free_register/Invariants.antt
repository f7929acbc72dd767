use mathlib.Core.Path.{◌≡◌}
use Prim.Native.Nat.{◌-◌}
use Rattle.allocate.specs.Registers.{free_from}
use Rattle.allocate.proofs.registers.free_register.Given as goal

abbrev pub invariant-loop-r : goal.invariant-loop-r
invariant-loop-r l = free_from 16 0 l.owner l.mask ≡ free_from (16 - l.r) l.r l.owner l.mask
