use Rattle.std.proofs.Common.{◌≡◌}
use Rattle.answers.specs.Numbers.{accepted}
use Rattle.answers.specs.Order.{in_order}
use Rattle.house.specs.Frame.{block_answer}
use Rattle.house.proofs.frame.judge.Given as goal

abbrev pub invariant-loop-number : goal.invariant-loop-number
invariant-loop-number l = in_order (block_answer l.kinds.low l.kinds.high l.bytes) l.number ≡ accepted tt
