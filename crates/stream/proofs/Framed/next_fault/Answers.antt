-- `next_fault` keeps a fault, then looks at the block before, then at the block. Assumes nothing.
use Rattle.std.proofs.Common.{sym, ◌∙◌}
use Rattle.stream.specs.Ways.{fault_kept, fault_before, fault_own, last_ok, last_err}
use Rattle.stream.proofs.Framed.next_fault.Goals as goal

pub returns-then-self-ne0 : goal.returns-then-self-ne0
returns-then-self-ne0 c = fault_kept _ _ _ _ _ c.if-self-ne0.true

pub returns-then-short_before : goal.returns-then-short_before
returns-then-short_before c = c.number.ensures ∙ fault_before _ _ _ _ _ c.if-self-ne0.false (sym c.short_before.ensures ∙ c.if-short_before.true)

pub returns-in-Ok : goal.returns-in-Ok
returns-in-Ok c =
    fault_own _ _ _ _ _ c.if-self-ne0.false _ (sym c.short_before.ensures ∙ c.if-short_before.false) (last_ok _ _ _ _ _ _ c.judge_block.ensures c.in-Ok.is)

pub returns-in-Err : goal.returns-in-Err
returns-in-Err c =
    fault_own _ _ _ _ _ c.if-self-ne0.false _ (sym c.short_before.ensures ∙ c.if-short_before.false)
    (last_err _ _ _ _ _ _ c.judge_block.ensures _ c.number-in-Err.ensures c.in-Err.is)
