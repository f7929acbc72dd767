-- `judge`: before turn `number` every block below it is accepted. Assumes nothing.
use Rattle.std.proofs.Common.{sym, ap, ◌∙◌, arith}
use Rattle.std.proofs.lemmas.Bool.{eqb-false}
use Rattle.std.proofs.lemmas.Grind.{common_steps}
use Rattle.answers.specs.Numbers.{answer_of}
use Rattle.answers.specs.OrderLaws.{in_order_start, in_order_next, in_order_hand_on, in_order_end}
use Rattle.house.specs.Frame.{wrong_length}
use Rattle.house.specs.FrameLaws.{frame_wrong, frame_blocks, judged_here}
use Rattle.house.proofs.frame.judge.Goals as goal

pub loop-number-init : goal.loop-number-init
loop-number-init c = in_order_start _

pub returns-then-is_empty : goal.returns-then-is_empty
unfolding wrong_length
returns-then-is_empty c = frame_wrong _ _ _ (grind (arith, common_steps))

pub returns-in_err-judge_block : goal.returns-in_err-judge_block
returns-in_err-judge_block c =
    frame_blocks _ _ _ (eqb-false _ _ (sym c.is_empty.ensures ∙ c.if-is_empty.false)) c.if-bytes-ne0.false
    (in_order_hand_on _ _ c.loop-number.number _ c.loop-number-test.true c.loop-number.invariant
    (judged_here _ _ _ _ _ c.block_word-first.ensures c.judge_block.ensures) c.in_err-judge_block.was c.from_residual.ensures.1)

pub loop-number-preserved : goal.loop-number-preserved
loop-number-preserved c =
    in_order_next _ c.loop-number.number c.loop-number.invariant
    (sym (judged_here _ _ _ _ _ c.block_word-first.ensures c.judge_block.ensures) ∙ ap answer_of c.in_ok-judge_block.was)

pub returns : goal.returns
returns c =
    frame_blocks _ _ _ (eqb-false _ _ (sym c.is_empty.ensures ∙ c.if-is_empty.false)) c.if-bytes-ne0.false
    (sym (in_order_end _ c.loop-number.number _ c.loop-number.auto.number-end c.loop-number-test.false c.loop-number.invariant))
