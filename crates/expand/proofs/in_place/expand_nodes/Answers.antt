-- `expand_nodes`: at each turn the nodes from i on stand written and the map of the nodes before them is still there. Assumes nothing.
use Prim.Native.Nat.{◌-◌}
use native.Mathlib.Omega.{arith}
use Rattle.expand.specs.Lengths.{length_is}
use Rattle.expand.specs.InPlace.{going_start, going_back, end_covers, end_small, going_ready, going_turn, going_done}
use Rattle.expand.proofs.in_place.expand_nodes.Goals as goal

pub loop-i-init : goal.loop-i-init
loop-i-init c = going_start _ _ _ _ c.requires

pub overflow_sub-end : goal.overflow_sub-end
overflow_sub-end c = let g = going_back _ _ _ _ _ _ _ c.loop-i-test.true c.loop-i.invariant in omega (arith, end_covers _ _ _ _ _ _ _ c.requires g, length_is c.args.steps c.args.nodes.now (c.loop-i.i - 1) c.length-end.ensures c.from.ensures)

pub overflow_cast-end : goal.overflow_cast-end
overflow_cast-end c = let g = going_back _ _ _ _ _ _ _ c.loop-i-test.true c.loop-i.invariant in omega (arith, end_small _ _ _ _ _ _ _ c.requires g, c.requires.fits)

pub expand_node-requires : goal.expand_node-requires
expand_node-requires c = let g = going_back _ _ _ _ _ _ _ c.loop-i-test.true c.loop-i.invariant in going_ready _ _ _ _ _ _ _ c.requires g _ (omega (arith, end_covers _ _ _ _ _ _ _ c.requires g, length_is c.args.steps c.args.nodes.now (c.loop-i.i - 1) c.length-end.ensures c.from.ensures))

pub loop-i-preserved : goal.loop-i-preserved
loop-i-preserved c = let g = going_back _ _ _ _ _ _ _ c.loop-i-test.true c.loop-i.invariant in going_turn _ _ _ _ _ _ _ c.requires g _ _ (omega (arith, end_covers _ _ _ _ _ _ _ c.requires g, length_is c.args.steps c.args.nodes.now (c.loop-i.i - 1) c.length-end.ensures c.from.ensures)) c.expand_node.ensures

pub shape_of-table : goal.shape_of-table
shape_of-table c = c.loop-i.invariant.long

pub returns : goal.returns
returns c = going_done _ _ _ _ _ _ _ c.loop-i.invariant c.loop-i-test.false
