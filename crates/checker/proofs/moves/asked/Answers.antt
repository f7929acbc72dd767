-- `asked`: no update asks for nothing. Assumes nothing.
use Rattle.checker.specs.MoveLaws.{asked_nobody, asked_one}
use Rattle.checker.proofs.moves.asked.Goals as goal

pub returns-then-update-eq0 : goal.returns-then-update-eq0
returns-then-update-eq0 c = asked_nobody _ _ _ c.if-update-eq0.true

pub returns : goal.returns
returns c = asked_one _ _ _ c.if-update-eq0.false c.asked_node.ensures
