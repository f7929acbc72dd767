-- `release_both`: what holds all along still holds once the first is released. Assumes nothing.
use Rattle.allocate.specs.Ready.{kept_by, released_if_kept}
use Rattle.allocate.proofs.Desk.release_both.Goals as goal

pub release_if-requires-2 : goal.release_if-requires-2
release_if-requires-2 c = ((kept_by _ _ _ _ _ c.release_if.ensures.done (released_if_kept _ _ c.requires.0 _ c.requires.1.0)).0, c.requires.1.1)
