-- `mapped_update`: an update that is not 0 is a node's number and one, before and after. Assumes nothing.
use native.Mathlib.Omega.{arith}
use Prim.Native.Nat.{◌-◌}
use Rattle.expand.specs.MapLaws.{within_small, update_within_is}
use Rattle.expand.proofs.mapped_update.Goals as goal

pub overflow_add-result : goal.overflow_add-result
overflow_add-result c = omega (arith, within_small c.args.nodes.now (c.args.update - 1))

pub returns : goal.returns
returns c = update_within_is c.args.nodes.now c.args.update _ c.if-update-eq0.false c.mapped_node.ensures
