-- `start`: the control steps run from cleared registers and slots (`start_ran` of specs/SampleLaws). Assumes nothing.
use borrow.Author.Rules.{rules}
use lib.ListN.{length}
use mathlib.Core.Path.{refl}
use Rattle.step_run.specs.Setup.{the_setup}
use Rattle.step_run.specs.SampleLaws.{start_ran}
use Rattle.step_run.proofs.samples.start.Goals as goal

pub returns-clause-done : goal.returns-clause-done
returns-clause-done c =
    let slots = c.args.slots.now in
    start_ran (the_setup c.args.setup.now) _ _ _ _ _ _ _ (length slots.control.now) (length slots.spills.now) _ _ refl (search rules) (search rules) (c.run_steps.ensures.done 0)
