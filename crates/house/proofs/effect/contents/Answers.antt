-- `contents` reads nine words. Assumes nothing.
use Rattle.house.proofs.effect.contents.Goals as goal

pub returns : goal.returns
returns c = cc
