-- `mapped_node`: the records up to the node expand to one node more than its last one's number. Assumes nothing.
use mathlib.Core.Path.{sym}
use Prim.Native.Nat.{◌+◌, ◌*◌}
use native.Mathlib.Omega.{arith}
use lib.Seq.{length-take-le}
use Rattle.expand.specs.MapLaws.{within_past, within_is, within_counts}
use Rattle.expand.proofs.mapped_node.Goals as goal

pub returns-then-nodes-index : goal.returns-then-nodes-index
returns-then-nodes-index c = sym (within_past _ _ c.if-nodes-index.true)

pub slice_bounds-expanded_length-end : goal.slice_bounds-expanded_length-end
slice_bounds-expanded_length-end c = sym (length-take-le (3 * (c.args.node + 1)) c.args.nodes.now (omega arith))

pub overflow_sub-result : goal.overflow_sub-result
overflow_sub-result c = within_counts c.args.nodes.now c.args.node _ c.if-nodes-index.false c.expanded_length.ensures

pub returns : goal.returns
returns c = within_is c.args.nodes.now c.args.node _ c.if-nodes-index.false c.expanded_length.ensures
