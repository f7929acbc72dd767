-- `next` keeps a difference, else looks for one in the pair. Assumes nothing.
use mathlib.Core.Path.{◌∙◌}
use native.Mathlib.Omega.{arith}
use Rattle.stream.specs.CompareLaws.{pair_is, place_small, more_small, samples_most, pair_kept, pair_found}
use Rattle.stream.proofs.Comparison.next.Goals as goal

pub returns-then-self-seen : goal.returns-then-self-seen
returns-then-self-seen c =
    let e = pair_kept c.args.self c.args.a.now c.args.b.now _ c.samples_in-seen.ensures c.if-self-seen.true in
    record { kept = e; of_bytes = λ x y l k f. e ∙ pair_is _ x y _ _ c.requires.0 c.requires.1 l k f }

pub equal_words-more-requires : goal.equal_words-more-requires
equal_words-more-requires c = (c.requires.0, c.requires.1, place_small _ _ c.first_place-from.ensures)

pub overflow_add-place : goal.overflow_add-place
overflow_add-place c = omega (arith, place_small _ _ c.first_place-from.ensures, more_small _ _ _ _ c.equal_words-more.ensures)

pub overflow_add-result : goal.overflow_add-result
overflow_add-result c = omega (arith, c.requires.2, samples_most _ _ c.samples_in-seen.ensures, more_small _ _ _ _ c.equal_words-more.ensures)

pub returns : goal.returns
returns c =
    let e = pair_found c.args.self c.args.a.now c.args.b.now _ c.samples_in-seen.ensures _ _ _ _ c.if-self-seen.false c.first_place-from.ensures c.equal_words-more.ensures c.word_or.ensures c.word_or-2.ensures in
    record { kept = e; of_bytes = λ x y l k f. e ∙ pair_is _ x y _ _ c.requires.0 c.requires.1 l k f }
