use mathlib.Core.Path.{◌≡◌}
use Rattle.machine.specs.Registers.{up_to}
use Rattle.machine.proofs.registers.put.Given as goal

abbrev pub invariant-loop-k : goal.invariant-loop-k
invariant-loop-k l = l.r ≡ up_to l.initial.r l.place l.value l.k
