use mathlib.Core.Path.{◌≡◌}
use Prim.Native.Nat.{◌≤◌}
use lib.ListN.{length}
use Rattle.plan.specs.ControlLaws.{Numbers}
use Rattle.plan.proofs.control.number_slots.Given as goal

abbrev pub invariant-loop-i : goal.invariant-loop-i
invariant-loop-i l = (length l.work ≡ length l.initial.work) × (l.slots ≤ l.i) × Numbers l.flow.sizes l.flow.nodes.now l.initial.work l.work l.slots l.i
