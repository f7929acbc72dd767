-- `sample`: values, states, delays, one call each. Assumes nothing.
use Rattle.graph_run.specs.SampleLaws.{sample_is}
use Rattle.graph_run.proofs.sample.sample.Goals as goal

pub returns-clause-sampled : goal.returns-clause-sampled
returns-clause-sampled c = sample_is _ _ _ _ _ _ c.fill_values.ensures c.update_states.ensures c.update_delays.ensures.stored
