-- `link`: the invariant is what is left to link. Assumes nothing.
use Rattle.std.proofs.Common.{arith}
use Rattle.allocate.specs.Links.{linking_next, linking_end}
use Rattle.allocate.proofs.phase.link.Goals as goal

pub loop-position-preserved : goal.loop-position-preserved
loop-position-preserved c = linking_next _ _ _ c.loop-position.position _ _ _ c.requires.1 (omega arith) c.loop-position.invariant c.link_task.ensures

pub returns : goal.returns
returns c = linking_end _ _ _ _ _ _ (omega arith) c.loop-position.invariant
