use Rattle.memory.specs.Lent.{KeepsTables}
use Rattle.machine.specs.Tables.{the_machine, KeepsSlots}
use Rattle.step_run.specs.Setup.{the_setup}
use Rattle.step_run.specs.SampleLaws.{Playing}
use Rattle.step_run.proofs.samples.samples.Given as goal

abbrev pub invariant-loop-t : goal.invariant-loop-t
invariant-loop-t l =
    KeepsSlots l.initial.slots l.slots
    × (KeepsTables l.initial.memories l.memories
    × Playing (the_setup l.setup) (the_machine l.initial.r l.initial.slots l.initial.memories 0 0) (the_machine l.r l.slots l.memories 0 0) l.initial.output l.output l.t)
