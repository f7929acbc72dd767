use mathlib.Core.Path.{◌≡◌}
use Prim.Native.Nat.{◌≤◌, ◌*◌}
use lib.ListN.{length}
use Rattle.plan.specs.ControlLaws.{Controls}
use Rattle.plan.proofs.control.control_tasks.Given as goal

abbrev pub invariant-loop-i : goal.invariant-loop-i
invariant-loop-i l = (length l.work ≡ length l.initial.work) × (l.tasks ≤ 2 * l.i) × Controls l.flow.sizes l.flow.nodes.now l.initial.work l.work l.tasks l.i
