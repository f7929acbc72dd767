-- `check_and_run`: a refusal leaves the tables as the check did; else the run follows. Assumes nothing.
use Rattle.agree.specs.OrderedCalls.{check_refuses, run_follows}
use Rattle.agree.proofs.check_and_run.Goals as goal

pub returns-in-Err-clause-done : goal.returns-in-Err-clause-done
returns-in-Err-clause-done c = check_refuses _ _ _ _ _ _ _ _ _ c.check-checked.ensures _ c.in-Err.is

pub returns-clause-done : goal.returns-clause-done
returns-clause-done c = run_follows _ _ _ _ _ _ _ _ _ c.check-checked.ensures c.in_default.is _ _ c.run.ensures.done
