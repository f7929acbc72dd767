-- `checked_run`: a refusal of the tests hands the tables back as they came; else check and run follow. Assumes nothing.
use Rattle.agree.specs.OrderedCalls.{tests_refuse, calls_follow}
use Rattle.agree.proofs.checked_run.Goals as goal

pub returns-in-Err-clause-done : goal.returns-in-Err-clause-done
returns-in-Err-clause-done c = tests_refuse _ _ _ _ _ _ _ c.judge.ensures _ c.in-Err.is

pub returns-clause-done : goal.returns-clause-done
returns-clause-done c = calls_follow _ _ _ _ _ _ _ c.judge.ensures c.in_default.is _ c.check_and_run.ensures.done
