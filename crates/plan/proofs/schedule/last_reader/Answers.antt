-- `last_reader`: a law for each way out. Assumes nothing.
use Prim.Native.Nat.{◌+◌}
use native.Mathlib.Omega.{arith}
use Rattle.plan.specs.LastLaws.{reading_home}
use Rattle.plan.proofs.schedule.last_reader.Goals as goal

pub bounds-work-last : goal.bounds-work-last
bounds-work-last c = rw (c.homes.ensures, c.last.ensures) (omega (arith, reading_home _ _ (258 + c.args.w) c.requires.1 (omega (arith, c.requires.2)), c.requires.0.small, c.requires.0.room))
