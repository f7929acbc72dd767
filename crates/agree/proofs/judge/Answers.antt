-- `judge`: the work table is tested behind validation, the rest is the step run's. Assumes nothing.
use Rattle.agree.specs.OrderedCalls.{refused_first, small_counts, short_work, judged_by_run}
use Rattle.agree.proofs.judge.Goals as goal

pub returns-in_err-validate : goal.returns-in_err-validate
returns-in_err-validate c = refused_first _ _ _ _ _ c.validate.ensures _ c.in_err-validate.was c.from_residual.ensures.1

pub short_work-requires-clause-states : goal.short_work-requires-clause-states
short_work-requires-clause-states c = rw c.counts.ensures (small_counts _ _ c.validate.ensures c.in_ok-validate.was _ c.expanded_length-nodes.ensures).1

pub short_work-requires-clause-delays : goal.short_work-requires-clause-delays
short_work-requires-clause-delays c = rw c.counts.ensures (small_counts _ _ c.validate.ensures c.in_ok-validate.was _ c.expanded_length-nodes.ensures).2

pub returns-then-short_work : goal.returns-then-short_work
returns-then-short_work c = short_work _ _ _ _ _ c.validate.ensures c.in_ok-validate.was _ c.expanded_length-nodes.ensures _ (rw c.counts.ensures at c.short_work.ensures) c.if-short_work.true

pub returns : goal.returns
returns c = judged_by_run _ _ _ _ _ c.validate.ensures c.in_ok-validate.was _ c.expanded_length-nodes.ensures _ (rw c.counts.ensures at c.short_work.ensures) c.if-short_work.false _ c.judge.ensures
