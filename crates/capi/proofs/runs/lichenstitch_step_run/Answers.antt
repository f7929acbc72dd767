-- `lichenstitch_step_run`: short registers are refused; else sixteen words go in, `run` does the call, and its registers go back over the first words.
use Rattle.std.proofs.Common.{rules}
use Rattle.memory.specs.Lines.{memories}
use Rattle.memory.specs.Signals.{rendered}
use Rattle.step_run.specs.Run.{tables}
use Rattle.step_run.specs.Setup.{the_tables}
use Rattle.capi.specs.Runs.{short_crosses, steps_cross}
use Rattle.capi.proofs.runs.lichenstitch_step_run.Goals as goal

pub returns-then-registers-lt16 : goal.returns-then-registers-lt16
returns-then-registers-lt16 c = short_crosses _ _ _ _ _ _ _ _ c.if-registers-lt16.true c.short_registers.ensures c.cross.ensures

pub returns : goal.returns
returns c =
    let g = c.args in let after = c.run-ran.new in
    let crosses = steps_cross _ _ _ _ (tables g.expansion.now g.control.now g.spills.now (rendered g.output.now (memories g.held.now g.area.now g.cursors.now)) g.registers.now)
    g.answer.now _ _ _ (the_tables after.expansion after.slots after.memories after.output c.run-ran.result.registers) _
    c.if-registers-lt16.false c.sixteen.ensures c.run-ran.ensures.done c.copy.ensures c.cross-2.ensures in
    search (rules, crosses)
