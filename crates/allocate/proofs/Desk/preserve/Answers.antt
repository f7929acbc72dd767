-- `preserve`: an old value that memory does not hold any more. The check finds it alone; written out, since the edit that turns the test has to fail here. Assumes nothing.
use Rattle.allocate.specs.TaskArms.{preserved_stale}
use Rattle.allocate.proofs.Desk.preserve.Goals as goal

pub returns-then-self-fresh-eq0-clause-done : goal.returns-then-self-fresh-eq0-clause-done
returns-then-self-fresh-eq0-clause-done c = preserved_stale _ _ _ _ _ c.if-home-eq0.false (rw c.fresh_at-fresh.ensures at c.if-self-fresh-eq0.true)
