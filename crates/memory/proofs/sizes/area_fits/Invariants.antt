use mathlib.Core.Path.{◌≡◌}
use Prim.Native.Nat.{◌≤◌}
use lib.ListN.{length}
use Rattle.tables.specs.Loops.{sum}
use Rattle.block.specs.Block.{delay_length}
use Rattle.memory.proofs.sizes.area_fits.Given as goal

abbrev pub invariant-loop-i : goal.invariant-loop-i
invariant-loop-i l = (l.total ≡ sum (delay_length l.delays) l.i) × (l.total ≤ length l.area)
