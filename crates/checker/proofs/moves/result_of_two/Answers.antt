-- `result_of_two`: an empty register gives 0, else the index finds the class. Assumes nothing.
use Rattle.checker.specs.MoveLaws.{two_left, two_right, two_found}
use Rattle.checker.proofs.moves.result_of_two.Goals as goal
use Rattle.checker.proofs.moves.result_of_two.Goals.{then-x-eq0-via-then-x-eq0, then-x-eq0-via-else-x-eq0+then-y-eq0}

pub returns-then-x-eq0 : goal.returns-then-x-eq0
returns-then-x-eq0 c =
    elim c.then-x-eq0.branch [
      | then-x-eq0-via-then-x-eq0 w ↦ two_left _ _ _ _ c.register_at-x.ensures w.if-x-eq0.true
      | then-x-eq0-via-else-x-eq0+then-y-eq0 w ↦ two_right _ _ _ _ c.register_at-y.ensures w.if-y-eq0.true
    ]

pub returns : goal.returns
returns c = two_found _ _ _ _ c.register_at-x.ensures c.register_at-y.ensures c.if-x-eq0.false c.if-y-eq0.false c.lookup.ensures
