-- `first_bad_delay`: every delay below i is accepted, and the total is theirs and within the limit, so one word more does not wrap.
use mathlib.Core.Path.{sym, ◌∙◌}
use native.Mathlib.Omega.{arith}
use Prim.Native.Nat.{◌*◌}
use Rattle.answers.specs.OrderLaws.{in_order_start, in_order_next, in_order_stop}
use Rattle.tables.specs.Loops.{sum_start, sum_turn}
use Rattle.block.specs.Parts.{delay_stop, delay_pass, delay_low}
use Rattle.block.proofs.scans.first_bad_delay.Goals as goal

pub loop-i-init : goal.loop-i-init
loop-i-init c = (in_order_start _, (sym (sum_start _), omega arith))

pub overflow_add-next : goal.overflow_add-next
overflow_add-next c = omega (arith, c.type_inv.delays (2 * c.loop-i.i))

pub overflow_cast-index : goal.overflow_cast-index
overflow_cast-index c = omega (arith, c.requires, c.loop-i-test.true)

pub returns-then-bad_delay : goal.returns-then-bad_delay
returns-then-bad_delay c = sym (in_order_stop _ _ c.loop-i.i 12 _ c.loop-i-test.true c.loop-i.invariant.0 (delay_stop _ _ _ _ c.loop-i.invariant.1.0 (sym c.bad_delay.ensures ∙ c.if-bad_delay.true)))

pub loop-i-preserved : goal.loop-i-preserved
loop-i-preserved c = let f = sym c.bad_delay.ensures ∙ c.if-bad_delay.false in (in_order_next _ _ c.loop-i.invariant.0 (delay_pass _ _ _ _ c.loop-i.invariant.1.0 f), (sum_turn _ _ _ c.loop-i.invariant.1.0, delay_low c.args.delays.now c.args.nodes c.loop-i.i _ f))
