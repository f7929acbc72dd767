-- `mark_roots`: the output, then both tables. Assumes nothing.
use mathlib.Core.Path.{ap, ◌∙◌}
use native.Mathlib.Omega.{arith}
use lib.ListN.{length, length-set}
use Rattle.plan.specs.Nodes.{updates_of}
use Rattle.plan.specs.HoistLaws.{marked_length}
use Rattle.plan.specs.RootLaws.{roots_all}
use Rattle.plan.proofs.hoist.mark_roots.Goals as goal

pub mark_updates-requires : goal.mark_updates-requires
mark_updates-requires c = (c.requires.0, simp length-set (omega (arith, c.requires.3)))

pub mark_updates-requires-2 : goal.mark_updates-requires-2
mark_updates-requires-2 c = (c.requires.1, omega (arith, c.requires.3, simp (marked_length, length-set) at (ap length c.mark_updates.ensures)))

pub shape_of-work : goal.shape_of-work
shape_of-work c = (simp marked_length at (ap length c.mark_updates-2.ensures)) ∙ (simp (marked_length, length-set) at (ap length c.mark_updates.ensures))

pub returns : goal.returns
returns c = roots_all c.args.flow.now.sizes.nodes c.args.flow.now.output (updates_of c.args.flow.now.updates.now) (updates_of c.args.flow.now.stores.now) c.args.work.now _ _ (rw c.needed.ensures at c.mark_updates.ensures) c.mark_updates-2.ensures
