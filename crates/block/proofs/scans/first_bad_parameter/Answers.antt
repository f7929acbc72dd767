-- `first_bad_parameter`: every parameter below i is accepted; the limit makes its index a word.
use mathlib.Core.Path.{sym}
use native.Mathlib.Omega.{arith}
use Rattle.answers.specs.OrderLaws.{in_order_start, in_order_next, in_order_stop, refuse_at_on, refuse_at_off}
use Rattle.block.specs.Validation.{parameter_answer}
use Rattle.block.proofs.scans.first_bad_parameter.Goals as goal

pub loop-i-init : goal.loop-i-init
loop-i-init c = in_order_start _

pub overflow_cast-index : goal.overflow_cast-index
overflow_cast-index c = omega (arith, c.requires, c.loop-i-test.true)

pub returns-then-not-span_is_valid : goal.returns-then-not-span_is_valid
unfolding parameter_answer
returns-then-not-span_is_valid c = sym (in_order_stop _ _ c.loop-i.i 7 _ c.loop-i-test.true c.loop-i.invariant (refuse_at_on 7 _ (rw (sym c.span_is_valid.ensures, c.if-not-span_is_valid.true))))

pub loop-i-preserved : goal.loop-i-preserved
unfolding parameter_answer
loop-i-preserved c = in_order_next _ _ c.loop-i.invariant (refuse_at_off 7 _ (rw (sym c.span_is_valid.ensures, c.if-not-span_is_valid.false)))
