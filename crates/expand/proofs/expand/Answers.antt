-- `expand`: a refusal of validation is handed on, and what it accepts is valid. Assumes nothing.
use Rattle.expand.specs.Calls.{expand_refused, expand_accepted}
use Rattle.expand.proofs.expand.Goals as goal

pub returns-in_err-validate : goal.returns-in_err-validate
returns-in_err-validate c = expand_refused _ _ _ c.validate.ensures c.in_err-validate.was c.from_residual.ensures.1

pub expand-requires : goal.expand-requires
expand-requires c = expand_accepted _ c.validate.ensures c.in_ok-validate.was
