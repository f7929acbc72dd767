-- `Step::from_words_unchecked`: the parts of the word, as the definition takes them; formed or not, the same step. Assumes nothing.
use Rattle.std.proofs.Common.{rules, ◌≡◌}
use Rattle.kernel.specs.Steps.{step_of}
use Rattle.kernel.specs.Named.{step_if}
use Rattle.kernel.proofs.Step.from_words_unchecked.Goals as goal

pub returns : goal.returns
unfolding step_of
returns c = let (formed, x, e, p) = c.by_code.ensures in
    let h : c.by_code.result ≡ x = search rules in
    rw (e, h) (step_if formed x)
