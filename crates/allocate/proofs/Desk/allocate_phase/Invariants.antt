use mathlib.Core.Path.{◌≡◌}
use Rattle.allocate.specs.Desk.{the_desk, KeepsTables}
use Rattle.allocate.specs.Tasks.{the_lent, ran_to}
use Rattle.allocate.proofs.Desk.allocate_phase.Given as goal

abbrev pub invariant-loop-position : goal.invariant-loop-position
invariant-loop-position l =
    KeepsTables l.initial.self l.self
    × (((ran_to l.frame (the_lent l.flow) (the_desk l.initial.self) l.position).register ≡ 16 → ⊥)
    × (the_desk l.self ≡ (ran_to l.frame (the_lent l.flow) (the_desk l.initial.self) l.position).desk))
