-- `run`: a refusal leaves the tables as they came; an accepted call is rendered. Assumes nothing.
use Rattle.graph_run.specs.CallLaws.{refused_call, accepted_call}
use Rattle.graph_run.proofs.run.Goals as goal

pub returns-in_err-judge-clause-outcome : goal.returns-in_err-judge-clause-outcome
returns-in_err-judge-clause-outcome c = refused_call _ _ _ _ _ c.judge.ensures c.in_err-judge.was c.from_residual.ensures.1

pub returns-clause-outcome : goal.returns-clause-outcome
returns-clause-outcome c = accepted_call _ _ _ _ _ c.judge.ensures c.in_ok-judge.was c.render.ensures.rendered
