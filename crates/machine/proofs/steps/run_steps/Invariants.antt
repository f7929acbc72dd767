use Rattle.memory.specs.Lent.{the_given, KeepsTables}
use Rattle.machine.specs.Tables.{the_program, the_machine, KeepsSlots}
use Rattle.machine.specs.StepLaws.{Going}
use Rattle.machine.proofs.steps.run_steps.Given as goal

abbrev pub invariant-loop-i : goal.invariant-loop-i
invariant-loop-i l =
    KeepsSlots l.initial.slots l.slots
    × (KeepsTables l.initial.memories l.memories
    × Going (the_program l.program) l.steps (the_given l.given) l.first (the_machine l.initial.r l.initial.slots l.initial.memories l.initial.out 0) (the_machine l.r l.slots l.memories l.out 0) l.i)
