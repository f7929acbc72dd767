use Rattle.expand.specs.InPlace.{Going}
use Rattle.expand.proofs.in_place.expand_nodes.Given as goal

abbrev pub invariant-loop-i : goal.invariant-loop-i
invariant-loop-i l = Going l.steps l.nodes l.initial.table l.total l.table l.i l.end
