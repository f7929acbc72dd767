-- `update_states`: before turn i the first i states are updated. Assumes nothing.
use Rattle.graph_run.specs.SampleLaws.{states_start, states_next}
use mathlib.Core.Path.{◌∙◌}
use Rattle.graph_run.proofs.sample.update_states.Goals as goal

pub loop-i-init : goal.loop-i-init
loop-i-init c = states_start _ _ _

pub loop-i-preserved : goal.loop-i-preserved
loop-i-preserved c = c.update_state.ensures ∙ states_next _ _ _ _ _ c.loop-i.invariant
