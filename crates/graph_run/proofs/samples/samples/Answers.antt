-- `samples`: before turn t the first t samples are rendered and all is ready for the next. Assumes nothing.
use mathlib.Core.Path.{refl, ◌∙◌}
use Rattle.memory.specs.LentLaws.{keeps_start, keeps_next}
use Rattle.graph_run.specs.RunLaws.{going_start, going_next}
use Rattle.graph_run.proofs.samples.samples.Goals as goal

pub loop-t-init : goal.loop-t-init
loop-t-init c = record { long = refl; going = going_start _ _ _ _ _ c.requires.ready; same_tables = keeps_start }

pub loop-t-preserved : goal.loop-t-preserved
loop-t-preserved c =
    record {
      long = c.sample.auto.values ∙ c.loop-t.invariant.long;
      going = going_next _ _ _ _ _ _ _ _ _ c.loop-t.invariant.going (c.sample.ensures.sampled ∙ rw (c.loop-t.invariant.long, c.network_word-network.ensures));
      same_tables = keeps_next c.loop-t.invariant.same_tables c.sample.ensures.same_tables;
    }
