-- `first_bad_node`: every node below i is accepted, and the first refusal is handed on; the limit makes its index a word.
use mathlib.Core.Path.{sym, ap, ◌∙◌}
use native.Mathlib.Omega.{arith}
use Rattle.answers.specs.Numbers.{answer_of}
use Rattle.answers.specs.OrderLaws.{in_order_start, in_order_next, in_order_hand_on}
use Rattle.block.specs.Parts.{node_is}
use Rattle.block.proofs.scans.first_bad_node.Goals as goal

pub loop-i-init : goal.loop-i-init
loop-i-init c = in_order_start _

pub overflow_cast-i : goal.overflow_cast-i
overflow_cast-i c = omega (arith, c.requires, c.loop-i-test.true)

pub returns-in_err-judge_node : goal.returns-in_err-judge_node
returns-in_err-judge_node c = in_order_hand_on _ _ c.loop-i.i _ c.loop-i-test.true c.loop-i.invariant (node_is _ _ _ c.into.ensures c.judge_node.ensures) c.in_err-judge_node.was c.from_residual.ensures.1

pub loop-i-preserved : goal.loop-i-preserved
loop-i-preserved c = in_order_next _ _ c.loop-i.invariant (sym (node_is _ _ _ c.into.ensures c.judge_node.ensures) ∙ ap answer_of c.in_ok-judge_node.was)
