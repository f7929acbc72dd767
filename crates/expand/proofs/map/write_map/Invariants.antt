use Rattle.expand.specs.MapLaws.{Filling}
use Rattle.expand.proofs.map.write_map.Given as goal

abbrev pub invariant-loop-i : goal.invariant-loop-i
invariant-loop-i l = Filling l.steps l.nodes l.initial.table l.i-end l.table l.total l.i
