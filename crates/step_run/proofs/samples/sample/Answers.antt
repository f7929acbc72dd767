-- `sample`: the sample steps run from no output word, and what they leave there goes to the output (`sample_ran` of specs/SampleLaws). Assumes nothing.
use mathlib.Core.Path.{refl}
use Rattle.step_run.specs.Setup.{the_setup}
use Rattle.step_run.specs.SampleLaws.{sample_ran}
use Rattle.step_run.proofs.samples.sample.Goals as goal

pub returns-clause-done : goal.returns-clause-done
returns-clause-done c =
    λ n. sample_ran (the_setup c.args.setup.now) _ _ _ _ _ _ _ _ c.args.output.now _ n _ _ _ _ refl refl refl (rw c.given-given.ensures at (c.run_steps-next.ensures.done n))
