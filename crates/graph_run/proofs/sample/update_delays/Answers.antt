-- `update_delays`: before turn i the first i delays are updated and the lines fit. Assumes nothing.
use Rattle.memory.specs.LentLaws.{keeps_start, keeps_next}
use Rattle.graph_run.specs.SampleLaws.{storing_start, storing_next}
use native.Mathlib.Omega.{arith}
use Rattle.graph_run.proofs.sample.update_delays.Goals as goal

pub loop-i-init : goal.loop-i-init
loop-i-init c = record { stored = storing_start _ _ _ _ c.requires.fit; same_tables = keeps_start }

pub loop-i-preserved : goal.loop-i-preserved
loop-i-preserved c =
    let s = c.loop-i.invariant.stored in let e = s.kept.cursors in
    record {
      stored = storing_next _ _ _ _ _ _ _ s (omega (arith, c.requires.stores.count)) c.update_delay.ensures.stored;
      same_tables = keeps_next c.loop-i.invariant.same_tables c.update_delay.ensures.same_tables;
    }
