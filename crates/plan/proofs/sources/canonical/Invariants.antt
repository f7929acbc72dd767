use mathlib.Core.Path.{◌≡◌}
use lib.ListN.{length}
use Rattle.tables.specs.Loops.{turns}
use Rattle.plan.specs.SourceLaws.{canonical_node}
use Rattle.plan.proofs.sources.canonical.Given as goal

abbrev pub invariant-loop-i : goal.invariant-loop-i
invariant-loop-i l = (length l.work ≡ length l.initial.work) × (l.work ≡ turns (canonical_node l.flow.sizes l.control l.flow.nodes.now) l.initial.work l.i)
