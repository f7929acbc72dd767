-- `play`: the samples begin where the control steps end, with tables as long as before (`play_ran` of specs/SampleLaws). Assumes nothing.
use mathlib.Core.Path.{refl}
use Rattle.step_run.specs.Setup.{setup_for}
use Rattle.step_run.specs.SampleLaws.{play_ready, play_listed, play_ran}
use Rattle.step_run.proofs.samples.play.Goals as goal

pub samples-requires-clause-ready : goal.samples-requires-clause-ready
samples-requires-clause-ready c =
    let s = c.args.slots.now in let m = c.args.memories.now in
    play_ready (setup_for c.args.block.now c.args.code.now c.args.signals.now) _ _ c.args.code.now.instructions.now c.args.block.now.delays.now s.control.now s.spills.now
    m.held.now m.area.now m.cursors.now c.args.output.now refl c.requires _ _ _ _ c.start-registers.ensures.done _ c.fill_bases.ensures

pub samples-requires-clause-listed : goal.samples-requires-clause-listed
samples-requires-clause-listed c =
    let s = c.args.slots.now in let m = c.args.memories.now in
    play_listed (setup_for c.args.block.now c.args.code.now c.args.signals.now) _ _ c.args.code.now.instructions.now c.args.block.now.delays.now s.control.now s.spills.now
    m.held.now m.area.now m.cursors.now c.args.output.now refl c.requires _ _ _ _ c.start-registers.ensures.done

pub returns-clause-done : goal.returns-clause-done
returns-clause-done c =
    let s = c.args.slots.now in let m = c.args.memories.now in
    play_ran (setup_for c.args.block.now c.args.code.now c.args.signals.now) _ _ s.control.now s.spills.now m.held.now m.area.now m.cursors.now c.args.output.now
    _ _ _ _ _ _ _ _ _ c.start-registers.ensures.done (c.samples.ensures.done c.args.code.now.kernel.control)
