-- `chain_write`: a law for each way out. Assumes nothing.
use native.Mathlib.Omega.{arith}
use Rattle.plan.specs.Layout.{room_in}
use Rattle.plan.specs.LastLaws.{after_small}
use Rattle.plan.proofs.schedule.chain_write.Goals as goal

pub link_write-requires : goal.link_write-requires
link_write-requires c = (room_in _ _ _ c.requires.0, c.requires.2, after_small _ _ _ _ _ _ c.after-place.ensures c.requires.1 c.requires.2 (omega (arith, c.in-Some.ensures.0, c.in-Some.ensures.1, c.requires.3)))
