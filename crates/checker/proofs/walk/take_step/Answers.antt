-- `take_step`: each way out is a case of `Taken`. Assumes nothing.
use Rattle.checker.specs.WalkLaws.{taken_malformed, taken_barred, taken_empty, taken_moved}
use mathlib.Core.Path.{ap}
use mathlib.Core.Bool.{not}
use Rattle.checker.proofs.walk.take_step.Goals as goal

pub returns-in_default : goal.returns-in_default
returns-in_default c = taken_malformed _ _ _ _ _ _ _ _ _ _ c.requires.0 c.from_words-words.ensures c.in_default.is

pub returns-then-not-may_pass : goal.returns-then-not-may_pass
returns-then-not-may_pass c = taken_barred _ _ _ _ _ _ _ _ _ _ c.requires.0 c.from_words-words.ensures _ c.in-Some.is c.may_pass.ensures (ap not c.if-not-may_pass.true)

pub returns-then-class-eq0 : goal.returns-then-class-eq0
returns-then-class-eq0 c = taken_empty _ _ _ _ _ _ _ _ _ _ c.requires.0 c.from_words-words.ensures _ c.in-Some.is c.may_pass.ensures (ap not c.if-not-may_pass.false) c.moved_class-class.ensures c.if-class-eq0.true

pub returns : goal.returns
returns c = taken_moved _ _ _ _ _ _ _ _ _ _ c.requires.0 c.from_words-words.ensures _ c.in-Some.is c.may_pass.ensures (ap not c.if-not-may_pass.false) c.moved_class-class.ensures _ c.if-class-eq0.false c.after_move.ensures
