use Rattle.std.specs.Prelude.{◌≡◌}
use Rattle.answers.specs.Numbers.{accepted}
use Rattle.answers.specs.Order.{in_order}
use Rattle.block.specs.Validation.{node_answer}
use Rattle.block.proofs.scans.first_bad_node.Given as goal

abbrev pub invariant-loop-i : goal.invariant-loop-i
invariant-loop-i l = in_order (node_answer l.nodes l.counts) l.i ≡ accepted tt
