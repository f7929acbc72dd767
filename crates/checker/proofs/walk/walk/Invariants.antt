use Rattle.checker.specs.WalkLaws.{Walking}
use lib.ListN.{length}
use mathlib.Core.Path.{◌≡◌}
use Rattle.checker.proofs.walk.walk.Given as goal

abbrev pub invariant-loop-i : goal.invariant-loop-i
invariant-loop-i l =
    Walking l.list.terms l.list.nodes.now l.list.updates.now l.list.stores.now l.list.steps.now l.list.instructions.now l.phase l.first l.count l.initial.work l.work l.i
    × (length l.work ≡ length l.initial.work)
