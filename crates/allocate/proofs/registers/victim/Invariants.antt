use Rattle.std.proofs.Common.{◌≡◌, ◌<◌}
use Rattle.std.specs.Prelude.{IfSome}
use Rattle.allocate.specs.Registers.{register_or_16, lock, victim_of}
use Rattle.allocate.proofs.registers.victim.Given as goal

abbrev pub invariant-loop-r : goal.invariant-loop-r
invariant-loop-r l =
    IfSome l.best (λ k. k < 16)
    × (register_or_16 l.best ≡ victim_of l.r l.frame l.work l.owner (lock l.locked 0) (lock l.locked 1))
