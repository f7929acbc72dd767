-- `expanded_length`: the total is the offset of node i and within the limit; past it every longer table counts the same.
use mathlib.Core.Path.{sym}
use native.Mathlib.Omega.{arith}
use Rattle.tables.specs.Loops.{sum_start}
use Rattle.block.specs.KindLaws.{length_most, length_stop, length_turn, length_end}
use Rattle.block.proofs.kinds.expanded_length.Goals as goal

pub loop-i-init : goal.loop-i-init
loop-i-init c = (sym (sum_start _), omega arith)

pub overflow_add-total : goal.overflow_add-total
overflow_add-total c = omega (arith, c.length-total.ensures, length_most c.from.result)

pub returns-then-total-gt-MOST_NODES : goal.returns-then-total-gt-MOST_NODES
returns-then-total-gt-MOST_NODES c = sym (length_stop _ _ _ _ _ c.loop-i-test.true c.loop-i.invariant.0 c.from.ensures c.length-total.ensures c.if-total-gt-MOST_NODES.true)

pub loop-i-preserved : goal.loop-i-preserved
loop-i-preserved c = (length_turn _ _ _ _ c.loop-i.invariant.0 c.from.ensures c.length-total.ensures, c.if-total-gt-MOST_NODES.false)

pub returns : goal.returns
returns c = length_end _ _ _ _ (omega arith) c.loop-i-test.false c.loop-i.invariant.0 c.loop-i.invariant.1
