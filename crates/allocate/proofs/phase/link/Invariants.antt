use Rattle.allocate.specs.Tasks.{the_lent}
use Rattle.allocate.specs.Links.{Linking}
use Rattle.allocate.proofs.phase.link.Given as goal

abbrev pub invariant-loop-position : goal.invariant-loop-position
invariant-loop-position l = Linking l.frame (the_lent l.flow) l.count l.position l.initial.work l.work
