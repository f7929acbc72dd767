use mathlib.Core.Path.{◌≡◌}
use Prim.Native.Nat.{ℕ, ◌≤◌}
use lib.ListN.{length, get_or}
use Rattle.classes.specs.Start.{index_length}
use Rattle.classes.specs.Index.{Filled}
use Rattle.classes.proofs.insert_all.Given as goal

abbrev pub invariant-loop-node : goal.invariant-loop-node
invariant-loop-node l = (length l.work ≡ length l.initial.work) × (Filled l.count l.node l.nodes l.work × ((i : ℕ) → index_length l.count ≤ i → get_or l.work i 0 ≡ get_or l.initial.work i 0))
