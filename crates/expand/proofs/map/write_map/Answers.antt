-- `write_map`: turn i stores node i's last expanded node, one less than the lengths so far. Assumes nothing.
use mathlib.Core.Path.{ap, ◌∙◌}
use native.Mathlib.Omega.{arith}
use lib.ListN.{length}
use Rattle.expand.specs.Lengths.{length_is}
use Rattle.expand.specs.MapLaws.{over_length, filling_start, filling_small, filling_next, filling_end}
use Rattle.expand.proofs.map.write_map.Goals as goal

pub loop-i-init : goal.loop-i-init
loop-i-init c = filling_start _ _ _ _

pub overflow_add-total : goal.overflow_add-total
overflow_add-total c = omega (arith, filling_small _ _ _ _ _ _ _ _ c.loop-i.invariant c.loop-i-test.true (length_is c.args.steps c.args.nodes.now c.loop-i.i c.length-total.ensures c.from.ensures) c.requires.1)

pub overflow_sub-table : goal.overflow_sub-table
overflow_sub-table c = omega (arith, filling_small _ _ _ _ _ _ _ _ c.loop-i.invariant c.loop-i-test.true (length_is c.args.steps c.args.nodes.now c.loop-i.i c.length-total.ensures c.from.ensures) c.requires.1)

pub overflow_cast-table : goal.overflow_cast-table
overflow_cast-table c = omega (arith, filling_small _ _ _ _ _ _ _ _ c.loop-i.invariant c.loop-i-test.true (length_is c.args.steps c.args.nodes.now c.loop-i.i c.length-total.ensures c.from.ensures) c.requires.1)

pub offset_bounds-table-i : goal.offset_bounds-table-i
offset_bounds-table-i c = omega (arith, ap length c.loop-i.invariant.filled ∙ over_length c.args.steps c.args.nodes.now c.loop-i.i c.args.table.now)

pub bounds-table-i : goal.bounds-table-i
bounds-table-i c = omega (arith, ap length c.loop-i.invariant.filled ∙ over_length c.args.steps c.args.nodes.now c.loop-i.i c.args.table.now)

pub loop-i-preserved : goal.loop-i-preserved
loop-i-preserved c = filling_next _ _ _ _ _ _ _ _ c.loop-i.invariant c.loop-i-test.true (length_is c.args.steps c.args.nodes.now c.loop-i.i c.length-total.ensures c.from.ensures)

pub shape_of-table : goal.shape_of-table
shape_of-table c = ap length c.loop-i.invariant.filled ∙ over_length c.args.steps c.args.nodes.now c.loop-i.i c.args.table.now

pub returns : goal.returns
returns c = filling_end _ _ _ _ _ _ _ c.loop-i.invariant c.loop-i-test.false
