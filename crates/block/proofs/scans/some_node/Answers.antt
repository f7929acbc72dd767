-- `some_node`: whatever the test is worth of a node, no node below i passes.
use Rattle.std.proofs.Common.{sym}
use Rattle.tables.specs.Loops.{some_start, some_stop, some_next}
use Rattle.block.proofs.scans.some_node.Goals as goal

pub loop-i-init : goal.loop-i-init
loop-i-init g c = λ passes h. some_start passes

pub returns-then-test : goal.returns-then-test
returns-then-test g c = λ passes h. sym (some_stop passes _ c.loop-i.i c.loop-i-test.true (sym (h c.loop-i.i _ c.if-test.ensures)))

pub loop-i-preserved : goal.loop-i-preserved
loop-i-preserved g c = λ passes h. some_next passes c.loop-i.i (c.loop-i.invariant passes h) (sym (h c.loop-i.i _ c.if-test.ensures))
