use mathlib.Core.Path.{◌≡◌}
use Prim.Native.Nat.{◌≤◌}
use Rattle.answers.specs.Numbers.{accepted}
use Rattle.answers.specs.Order.{in_order}
use Rattle.tables.specs.Loops.{sum}
use Rattle.block.specs.Block.{delay_length}
use Rattle.block.specs.Validation.{delay_answer}
use Rattle.block.proofs.scans.first_bad_delay.Given as goal

abbrev pub invariant-loop-i : goal.invariant-loop-i
invariant-loop-i l = ((in_order (delay_answer l.delays l.nodes) l.i ≡ accepted tt) × ((l.total ≡ sum (delay_length l.delays) l.i) × (l.total ≤ 16777216)))
