use Rattle.std.proofs.Common.{◌≡◌, ◌-◌, ◌≤◌, false}
use Rattle.tables.specs.Loops.{some}
use Rattle.house.specs.Frame.{unused_word}
use Rattle.house.proofs.frame.rest_not_zero.Given as goal

abbrev pub invariant-loop-place : goal.invariant-loop-place
invariant-loop-place l = (l.place - l.used ≤ 124 - l.used) × (some (unused_word l.bytes l.number) (l.place - l.used) ≡ false)
