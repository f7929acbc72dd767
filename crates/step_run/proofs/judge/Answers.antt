-- `judge`: each way out is a case of `run_judged`. Assumes nothing.
use Rattle.step_run.specs.CallLaws.{declared, refused_block, short_table, bad_list, sizes_differ, all_fits}
use Rattle.step_run.proofs.judge.Goals as goal

pub returns-in_err-validate : goal.returns-in_err-validate
returns-in_err-validate c = refused_block _ _ _ _ _ c.validate.ensures _ c.in_err-validate.was c.from_residual.ensures.1

pub returns-then-shorter : goal.returns-then-shorter
returns-then-shorter c = short_table _ _ _ _ _ c.validate.ensures c.in_ok-validate.was _ c.expanded_length-count.ensures _ c.shorter.ensures c.if-shorter.true

pub list_may_run-requires : goal.list_may_run-requires
list_may_run-requires c = declared _ _ _ _ _ c.args.code.now.steps.now c.args.code.now.instructions.now _ c.shorter.ensures c.if-shorter.false

pub returns-then-not-list_may_run : goal.returns-then-not-list_may_run
returns-then-not-list_may_run c = bad_list _ _ _ _ _ c.validate.ensures c.in_ok-validate.was _ c.expanded_length-count.ensures _ c.shorter.ensures c.if-shorter.false _ c.list_may_run.ensures c.if-not-list_may_run.true

pub returns-then-not-run_fits : goal.returns-then-not-run_fits
returns-then-not-run_fits c = sizes_differ _ _ _ _ _ c.validate.ensures c.in_ok-validate.was _ c.expanded_length-count.ensures _ c.shorter.ensures c.if-shorter.false _ c.list_may_run.ensures c.if-not-list_may_run.false _ c.run_fits.ensures c.if-not-run_fits.true

pub returns : goal.returns
returns c = all_fits _ _ _ _ _ c.validate.ensures c.in_ok-validate.was _ c.expanded_length-count.ensures _ c.shorter.ensures c.if-shorter.false _ c.list_may_run.ensures c.if-not-list_may_run.false _ c.run_fits.ensures c.if-not-run_fits.false
