use mathlib.Core.Path.{◌≡◌}
use lib.ListN.{length}
use Rattle.plan.specs.Regions.{written, flags}
use Rattle.plan.specs.HoistLaws.{invariant_to}
use Rattle.plan.proofs.hoist.invariance.Given as goal

abbrev pub invariant-loop-i : goal.invariant-loop-i
invariant-loop-i l = (length l.work ≡ length l.initial.work) × (l.work ≡ written 0 (flags (invariant_to l.flow.nodes.now l.i)) l.initial.work)
