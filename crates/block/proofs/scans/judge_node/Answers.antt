-- `judge_node`: 9, else 10, else neither.
use mathlib.Core.Path.{sym, ◌∙◌}
use Rattle.answers.specs.OrderLaws.{then_stop, then_pass, refuse_at_on, refuse_at_off}
use Rattle.block.specs.Validation.{words_answer}
use Rattle.block.proofs.scans.judge_node.Goals as goal

pub returns-then-operand_not_below : goal.returns-then-operand_not_below
unfolding words_answer
returns-then-operand_not_below c = sym (then_stop _ (refuse_at_on 9 _ (rw (sym c.operands.ensures) (sym c.operand_not_below.ensures ∙ c.if-operand_not_below.true))))

pub returns-then-bad_content : goal.returns-then-bad_content
unfolding words_answer
returns-then-bad_content c = sym (then_pass _ (refuse_at_off 9 _ (rw (sym c.operands.ensures) (sym c.operand_not_below.ensures ∙ c.if-operand_not_below.false))) ∙ refuse_at_on 10 _ (sym c.bad_content.ensures ∙ c.if-bad_content.true))

pub returns : goal.returns
unfolding words_answer
returns c = sym (then_pass _ (refuse_at_off 9 _ (rw (sym c.operands.ensures) (sym c.operand_not_below.ensures ∙ c.if-operand_not_below.false))) ∙ refuse_at_off 10 _ (sym c.bad_content.ensures ∙ c.if-bad_content.false))
