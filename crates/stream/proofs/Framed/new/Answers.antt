-- `new`. Assumes nothing.
use Rattle.stream.specs.StreamLaws.{none_is}
use Rattle.stream.proofs.Framed.new.Goals as goal

pub returns : goal.returns
returns c = λ low high. none_is low high
