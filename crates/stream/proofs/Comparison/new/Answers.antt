-- `new`. Assumes nothing.
use Rattle.stream.specs.CompareLaws.{no_pair_is}
use Rattle.stream.proofs.Comparison.new.Goals as goal

pub returns : goal.returns
returns c = no_pair_is
