-- `set`: each way out is one answer of the definition, in its order. Assumes nothing.
use mathlib.Core.Path.{sym, ◌∙◌}
use native.Mathlib.Omega.{arith}
use Rattle.memory.specs.CallLaws.{told, set_invalid, set_sizes, set_unknown, set_outside, set_done}
use Rattle.memory.proofs.set.Goals as goal

pub returns-in_err-validate : goal.returns-in_err-validate
returns-in_err-validate c = set_invalid _ _ _ _ _ c.validate.ensures c.in_err-validate.was c.from_residual.ensures.1

pub returns-then-settings-count : goal.returns-then-settings-count
returns-then-settings-count c = set_sizes _ _ _ _ (told c.validate.ensures c.in_ok-validate.was) c.if-settings-count.true

pub returns-then-count-i : goal.returns-then-count-i
returns-then-count-i c = set_unknown _ _ _ _ (told c.validate.ensures c.in_ok-validate.was) c.if-settings-count.false (omega (arith, c.if-count-i.true))

pub returns-then-not-in_range : goal.returns-then-not-in_range
returns-then-not-in_range c =
    set_outside _ _ _ _ (told c.validate.ensures c.in_ok-validate.was) c.if-settings-count.false c.if-count-i.false (sym c.in_range.ensures ∙ c.if-not-in_range.true)

pub returns : goal.returns
returns c = set_done _ _ _ _ (told c.validate.ensures c.in_ok-validate.was) c.if-settings-count.false c.if-count-i.false (sym c.in_range.ensures ∙ c.if-not-in_range.false)
