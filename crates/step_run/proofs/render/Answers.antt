-- `render`: with no sample the expansion alone is written; else the run is played and its steps are control + n × sample. Assumes nothing.
use Rattle.step_run.specs.CallLaws.{accepted_run, expanded_table, some_steps, playable, none_call, done_call}
use Rattle.step_run.specs.BudgetLaws.{within_done}
use Rattle.step_run.proofs.render.Goals as goal

pub expand-requires : goal.expand-requires
expand-requires c = (accepted_run _ _ _ _ c.requires).judged

pub samples_done-count-requires : goal.samples_done-count-requires
samples_done-count-requires c = some_steps _ _ _ _ (accepted_run _ _ _ _ c.requires)

pub returns-then-count-eq0-clause-done : goal.returns-then-count-eq0-clause-done
returns-then-count-eq0-clause-done c = none_call _ _ _ _ _ _ _ c.requires c.samples_done-count.ensures c.if-count-eq0.true (expanded_table _ _ _ _ (accepted_run _ _ _ _ c.requires) _ _ c.expand.ensures)

pub done-done-requires : goal.done-done-requires
done-done-requires c = within_done _ _ _ _ (some_steps _ _ _ _ (accepted_run _ _ _ _ c.requires)) c.samples_done-count.ensures c.if-count-eq0.false

pub play-registers-requires : goal.play-registers-requires
play-registers-requires c = playable _ _ c.args.budget _ _ _ (accepted_run _ _ _ _ c.requires) c.samples_done-count.ensures

pub returns-clause-done : goal.returns-clause-done
returns-clause-done c =
    done_call _ _ _ _ _ _ _ _ _ _ _ _ c.requires c.samples_done-count.ensures c.if-count-eq0.false c.done-done.ensures
    (expanded_table _ _ _ _ (accepted_run _ _ _ _ c.requires) _ _ c.expand.ensures) c.play-registers.ensures.done
