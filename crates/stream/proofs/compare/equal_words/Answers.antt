-- `equal_words`: before turn i the first i words are equal. Assumes nothing.
use Rattle.std.proofs.Common.{◌≡◌, ◌-◌, sym, ap, ◌∙◌, arith}
use Rattle.stream.specs.Compare.{first_of, words_differ}
use Rattle.stream.specs.CompareLaws.{first_start, words_stop, words_next}
use Rattle.stream.proofs.compare.equal_words.Goals as goal

pub loop-i-init : goal.loop-i-init
loop-i-init c = first_start _

pub returns-then-first_word : goal.returns-then-first_word
returns-then-first_word c = words_stop _ _ _ c.loop-i.i _ _ c.first_word.ensures c.first_word-in-loop-i.ensures _ c.loop-i-test.true c.loop-i.invariant c.if-first_word.true

pub loop-i-preserved : goal.loop-i-preserved
loop-i-preserved c = words_next _ _ _ c.loop-i.i _ _ c.first_word.ensures c.first_word-in-loop-i.ensures c.loop-i.invariant c.if-first_word.false

pub returns : goal.returns
returns c =
    let z : c.loop-i.i ≡ 124 - c.args.from = omega arith in
    sym (ap (first_of (words_differ c.args.a.now c.args.b.now c.args.from)) (sym z) ∙ (c.loop-i.invariant ∙ z))
