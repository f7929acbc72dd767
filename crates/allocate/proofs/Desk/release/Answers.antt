-- `release`: what holds all along still holds once the register is given back. Assumes nothing.
use Rattle.allocate.specs.Ready.{kept_by, dropped_register_kept}
use Rattle.allocate.proofs.Desk.release.Goals as goal

pub drop_slot-requires : goal.drop_slot-requires
drop_slot-requires c = ((kept_by _ _ _ _ _ c.drop_register.ensures.done (dropped_register_kept _ _ c.requires.0 _ c.requires.1)).0, c.requires.1)
