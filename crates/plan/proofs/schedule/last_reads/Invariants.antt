use mathlib.Core.Path.{◌≡◌}
use lib.ListN.{length}
use Rattle.tables.specs.Loops.{turns}
use Rattle.plan.specs.Chains.{last_node}
use Rattle.plan.proofs.schedule.last_reads.Given as goal

abbrev pub invariant-loop-i : goal.invariant-loop-i
invariant-loop-i l = (length l.work ≡ length l.initial.work) × (l.work ≡ turns (last_node l.flow.sizes.nodes l.flow.nodes.now) l.initial.work l.i)
