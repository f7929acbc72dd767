-- `lichenstitch_checked_run`: short registers are refused; else sixteen words go in, `checked_run` does the call, and its registers go back over the first words.
use Rattle.std.proofs.Common.{rules}
use Rattle.memory.specs.Lines.{memories}
use Rattle.memory.specs.Signals.{rendered}
use Rattle.agree.specs.Checked.{tables}
use Rattle.agree.specs.Lent.{the_tables}
use Rattle.capi.specs.CheckedRuns.{short_checked, checked_crosses}
use Rattle.capi.proofs.checks.lichenstitch_checked_run.Goals as goal

pub returns-then-registers-lt16 : goal.returns-then-registers-lt16
returns-then-registers-lt16 c = short_checked _ _ _ _ _ _ _ _ _ c.if-registers-lt16.true c.short_registers.ensures c.cross.ensures

pub returns : goal.returns
returns c =
    let g = c.args in let after = c.checked_run-ran.new in
    let crosses = checked_crosses _ _ _ _ _ (tables g.expansion.now g.work.now g.control.now g.spills.now (rendered g.output.now (memories g.held.now g.area.now g.cursors.now)) g.registers.now)
    g.answer.now _ _ _ (the_tables after.expansion after.work after.slots after.memories after.output c.checked_run-ran.result.registers) _
    c.if-registers-lt16.false c.sixteen.ensures c.checked_run-ran.ensures.done c.copy.ensures c.cross-2.ensures in
    search (rules, crosses)
