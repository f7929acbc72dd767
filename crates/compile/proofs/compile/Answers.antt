-- `compile`: a refusal by 1 to 13 hands the tables back as they came; every other call is built. Assumes nothing.
use Rattle.compile.specs.CallLaws.{refused_call, passed_call}
use Rattle.compile.proofs.compile.Goals as goal

pub returns-in_err-judge : goal.returns-in_err-judge
returns-in_err-judge c = refused_call _ _ _ _ _ c.judge.ensures c.in_err-judge.was c.from_residual.ensures.1

pub build-requires : goal.build-requires
build-requires c = passed_call _ _ _ c.judge.ensures c.in_ok-judge.was
