-- `next`: the four fields are those of one block more. Assumes nothing.
use mathlib.Core.Path.{◌∙◌}
use Rattle.stream.specs.StreamLaws.{next_is}
use Rattle.stream.specs.Ways.{next_done}
use Rattle.stream.proofs.Framed.next.Goals as goal

pub returns : goal.returns
returns c =
    let e = next_done c.args.kinds.low c.args.kinds.high c.args.self c.args.block.now _ _ _ c.first_kind-kind.ensures c.block_word.ensures c.next_fault.ensures in
    record { kept = e; of_bytes = λ bytes l f. e ∙ next_is _ _ _ bytes _ c.requires.0 l f }
