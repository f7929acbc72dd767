-- `result_of_one`: an empty register gives 0, else the index finds the class. Assumes nothing.
use Rattle.checker.specs.Walk.{fetched}
use Rattle.checker.specs.MoveLaws.{one_none, one_found}
use Rattle.checker.proofs.moves.result_of_one.Goals as goal

pub returns-then-x-eq0 : goal.returns-then-x-eq0
returns-then-x-eq0 c = one_none _ _ _ c.register_at-x.ensures c.if-x-eq0.true

pub returns : goal.returns
unfolding fetched
returns c = one_found _ _ _ c.register_at-x.ensures c.if-x-eq0.false c.fetched.ensures
