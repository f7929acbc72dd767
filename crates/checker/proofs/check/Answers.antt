-- `check`: a refusal by 1 to 13 hands the tables back as they came; every other call is reviewed. Assumes nothing.
use Rattle.checker.specs.CheckLaws.{refused_call}
use Rattle.checker.proofs.check.Goals as goal

pub returns-in_err-judge : goal.returns-in_err-judge
returns-in_err-judge c = refused_call _ _ _ _ _ _ _ _ c.judge.ensures c.in_err-judge.was c.from_residual.ensures.1

pub returns : goal.returns
returns c = c.review.ensures
