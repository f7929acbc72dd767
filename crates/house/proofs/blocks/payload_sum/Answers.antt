-- `payload_sum` folds over the words. Assumes nothing.
use Rattle.std.proofs.Common.{◌≡◌, ◌+◌, ◌%◌, ◌∙◌, ℕ, fold, rules}
use Rattle.house.specs.BytesLaws.{wrapping_fold}
use Rattle.house.proofs.blocks.payload_sum.Goals as goal

pub returns : goal.returns
returns c =
    let f : c.fold.result ≡ fold (λ (s w : ℕ). (s + w) % 4294967296) 0 c.args.payload = search rules in
    f ∙ wrapping_fold c.args.payload
