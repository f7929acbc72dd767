-- `padded` is a copy over zeros. Assumes nothing.
use Rattle.stream.specs.Written.{slice_padded}
use Rattle.stream.proofs.padded.Goals as goal

pub returns : goal.returns
returns c = slice_padded _ _ c.requires c.copy_from_slice.ensures.after
