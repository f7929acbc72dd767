-- `executed`: words that are no instruction are refused, and change nothing. Written out, so that an edit that changes something breaks it. Assumes nothing.
use mathlib.Core.Path.{sym, ap, ◌∙◌}
use Rattle.host.specs.Outcome.{ran, outcome}
use Rattle.host.proofs.executed.Goals as goal

pub returns-in-None : goal.returns-in-None
unfolding outcome
returns-in-None c = ap (ran c.args.words) (sym c.in-None.is ∙ c.from_words.ensures)
