-- `reset`: each way out is one answer of the definition; the three tables are written whole. Assumes nothing.
use mathlib.Core.Path.{sym, ◌∙◌}
use Rattle.std.proofs.Common.{rules}
use Rattle.memory.specs.SizeLaws.{held}
use Rattle.memory.specs.CallLaws.{told, reset_invalid, reset_sizes, reset_done}
use Rattle.memory.proofs.reset.Goals as goal

pub returns-in_err-validate-clause-outcome : goal.returns-in_err-validate-clause-outcome
returns-in_err-validate-clause-outcome c = reset_invalid _ _ _ c.validate.ensures c.in_err-validate.was c.from_residual.ensures.1

pub returns-then-not-fit-clause-outcome : goal.returns-then-not-fit-clause-outcome
returns-then-not-fit-clause-outcome c = reset_sizes _ _ (told c.validate.ensures c.in_ok-validate.was) (sym c.fit.ensures ∙ c.if-not-fit.true)

pub write_initial-requires : goal.write_initial-requires
write_initial-requires c = (held _ _ (sym c.fit.ensures ∙ c.if-not-fit.false)).states

pub returns-clause-outcome : goal.returns-clause-outcome
returns-clause-outcome c =
    reset_done _ _ (told c.validate.ensures c.in_ok-validate.was) (sym c.fit.ensures ∙ c.if-not-fit.false) c.write_initial.ensures (search rules) (search rules)
