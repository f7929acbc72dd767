-- `answer`: no block and bytes left over come before the fault. Assumes nothing.
use mathlib.Core.Path.{◌∙◌}
use Rattle.stream.specs.StreamLaws.{answer_is}
use Rattle.stream.specs.Ways.{end_early, end_whole}
use Rattle.stream.proofs.Framed.answer.Goals as goal

pub returns-then-self-eq0 : goal.returns-then-self-eq0
returns-then-self-eq0 c =
    let e = c.number.ensures ∙ end_early c.args.self c.args.left c.then-self-eq0.either in
    record { kept = e; of_bytes = λ low high bytes rest l f g h. e ∙ answer_is low high _ _ bytes rest l f g h }

pub returns : goal.returns
returns c =
    let e = end_whole c.args.self c.args.left c.if-self-eq0.false c.if-left-ne0.false in
    record { kept = e; of_bytes = λ low high bytes rest l f g h. e ∙ answer_is low high _ _ bytes rest l f g h }
