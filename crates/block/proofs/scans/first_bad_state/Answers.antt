-- `first_bad_state`: every state below i is accepted; the limit makes its index a word.
use mathlib.Core.Path.{sym, ◌∙◌}
use native.Mathlib.Omega.{arith}
use Rattle.answers.specs.OrderLaws.{in_order_start, in_order_next, in_order_stop, refuse_at_on, refuse_at_off}
use Rattle.block.specs.Validation.{state_answer}
use Rattle.block.proofs.scans.first_bad_state.Goals as goal

pub loop-i-init : goal.loop-i-init
loop-i-init c = in_order_start _

pub overflow_cast-index : goal.overflow_cast-index
overflow_cast-index c = omega (arith, c.requires, c.loop-i-test.true)

pub returns-then-bad_state : goal.returns-then-bad_state
unfolding state_answer
returns-then-bad_state c = sym (in_order_stop _ _ c.loop-i.i 11 _ c.loop-i-test.true c.loop-i.invariant (refuse_at_on 11 _ (sym c.bad_state.ensures ∙ c.if-bad_state.true)))

pub loop-i-preserved : goal.loop-i-preserved
unfolding state_answer
loop-i-preserved c = in_order_next _ _ c.loop-i.invariant (refuse_at_off 11 _ (sym c.bad_state.ensures ∙ c.if-bad_state.false))
