use mathlib.Core.Path.{◌≡◌}
use lib.ListN.{length, take}
use Rattle.plan.specs.Nodes.{updates_of}
use Rattle.plan.specs.Layout.{needed_at}
use Rattle.plan.specs.Words.{marked}
use Rattle.plan.proofs.hoist.mark_updates.Given as goal

abbrev pub invariant-loop-update : goal.invariant-loop-update
invariant-loop-update l = (length l.work ≡ length l.initial.work) × (l.work ≡ marked (needed_at l.sizes) (updates_of (take l.update-index l.updates)) l.initial.work)
