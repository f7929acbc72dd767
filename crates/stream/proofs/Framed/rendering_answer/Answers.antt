-- `rendering_answer`: the frame, then the payload's length. Assumes nothing.
use mathlib.Core.Path.{◌∙◌}
use Rattle.stream.specs.StreamLaws.{rendering_is}
use Rattle.stream.specs.Ways.{rendering_frame, rendering_length, rendering_good}
use Rattle.stream.proofs.Framed.rendering_answer.Goals as goal

pub returns-then-fault-ne0 : goal.returns-then-fault-ne0
returns-then-fault-ne0 c =
    let e = rendering_frame c.args.self c.args.left c.args.samples _ c.answer-fault.ensures.kept c.if-fault-ne0.true in
    record { kept = e; of_bytes = λ bytes rest l f g h k. e ∙ rendering_is _ _ _ bytes rest l f g h k }

pub returns-then-payload_words-samples : goal.returns-then-payload_words-samples
returns-then-payload_words-samples c =
    let e = c.number.ensures ∙ rendering_length c.args.self c.args.left c.args.samples _ c.answer-fault.ensures.kept c.if-fault-ne0.false _ c.payload_words.ensures.kept c.if-payload_words-samples.true in
    record { kept = e; of_bytes = λ bytes rest l f g h k. e ∙ rendering_is _ _ _ bytes rest l f g h k }

pub returns : goal.returns
returns c =
    let e = rendering_good c.args.self c.args.left c.args.samples _ c.answer-fault.ensures.kept c.if-fault-ne0.false _ c.payload_words.ensures.kept c.if-payload_words-samples.false in
    record { kept = e; of_bytes = λ bytes rest l f g h k. e ∙ rendering_is _ _ _ bytes rest l f g h k }
