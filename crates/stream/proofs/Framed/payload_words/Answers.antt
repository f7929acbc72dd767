-- `payload_words`: all blocks but the last use 124. Assumes nothing.
use Rattle.std.proofs.Common.{ℕ, ◌+◌, ◌*◌, ap, ◌∙◌}
use Rattle.stream.specs.StreamLaws.{payload_is}
use Rattle.stream.specs.Ways.{words_some}
use Rattle.stream.proofs.Framed.payload_words.Goals as goal

pub returns : goal.returns
returns c =
    let e = ap (λ (x : ℕ). 124 * x + c.args.self.used) c.saturating_sub.ensures ∙ words_some c.args.self in
    record { kept = e; of_bytes = λ low high bytes f. e ∙ payload_is low high _ bytes f }
