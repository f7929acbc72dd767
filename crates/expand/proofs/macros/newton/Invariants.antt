use mathlib.Core.Path.{◌≡◌}
use Prim.Native.Nat.{◌+◌, ◌*◌, ◌≤◌}
use lib.ListN.{length}
use Rattle.expand.specs.Writes.{write}
use Rattle.expand.specs.Macros.{newton}
use Rattle.expand.proofs.macros.newton.Given as goal

abbrev pub invariant-loop-left : goal.invariant-loop-left
invariant-loop-left l =
    (l.at + l.left * 3 ≤ 65536) × ((3 * (l.at + l.left * 3) ≤ length l.table) × ((length l.table ≡ length l.initial.table)
    × (write l.initial.table l.k (newton l.steps l.k l.x l.estimate l.two) ≡ write l.table l.at (newton l.left l.at l.x l.last l.two))))
