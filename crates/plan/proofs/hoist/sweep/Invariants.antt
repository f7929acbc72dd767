use mathlib.Core.Path.{◌≡◌}
use lib.ListN.{length}
use Rattle.plan.specs.HoistLaws.{Sweeps}
use Rattle.plan.proofs.hoist.sweep.Given as goal

abbrev pub invariant-loop-i : goal.invariant-loop-i
invariant-loop-i l = (length l.work ≡ length l.initial.work) × Sweeps l.flow.sizes l.flow.nodes.now l.base l.through l.initial.work l.i l.work
