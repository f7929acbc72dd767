use mathlib.Core.Path.{◌≡◌}
use mathlib.Core.List.{List}
use Prim.Native.Nat.{ℕ}
use lib.ListN.{length}
use Rattle.plan.specs.ChainLaws.{TasksFit, Pushed}
use Rattle.plan.proofs.schedule.sample_tasks.Given as goal

abbrev pub invariant-loop-i : goal.invariant-loop-i
invariant-loop-i l = (length l.work ≡ length l.initial.work) × ((table : List ℕ) → TasksFit l.flow.sizes l.flow.nodes.now table → Pushed l.flow.sizes l.flow.nodes.now table l.initial.work l.initial.tasks 0 → Pushed l.flow.sizes l.flow.nodes.now table l.work l.tasks l.i)
