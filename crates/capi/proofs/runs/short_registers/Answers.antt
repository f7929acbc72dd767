-- `short_registers`: what is wrong with the block is handed on; a valid one is refused by 13.
use Rattle.capi.specs.Runs.{short_handed_on, short_of_valid}
use Rattle.capi.proofs.runs.short_registers.Goals as goal

pub returns-in_err-validate : goal.returns-in_err-validate
returns-in_err-validate c = short_handed_on _ _ c.validate.ensures c.in_err-validate.was c.from_residual.ensures.1

pub returns : goal.returns
returns c = short_of_valid _ c.validate.ensures c.in_ok-validate.was
