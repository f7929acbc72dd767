-- `judge`: each way out is a case of `run_answer`. Assumes nothing.
use Rattle.graph_run.specs.CallLaws.{refused_block, short_expansion, short_values, sizes_differ, all_fits}
use Rattle.graph_run.proofs.judge.Goals.{then-expansion-length-via-then-expansion-length, then-expansion-length-via-else-expansion-length+then-values-length}
use Rattle.graph_run.proofs.judge.Goals as goal

pub returns-in_err-validate : goal.returns-in_err-validate
returns-in_err-validate c = refused_block _ _ _ _ c.validate.ensures _ c.in_err-validate.was c.from_residual.ensures.1

pub returns-then-expansion-length : goal.returns-then-expansion-length
returns-then-expansion-length c =
    elim c.then-expansion-length.branch [
      | then-expansion-length-via-then-expansion-length w ↦ short_expansion _ _ _ _ c.validate.ensures c.in_ok-validate.was _ c.expanded_length-length.ensures w.if-expansion-length.true
      | then-expansion-length-via-else-expansion-length+then-values-length w ↦ short_values _ _ _ _ c.validate.ensures c.in_ok-validate.was _ c.expanded_length-length.ensures w.if-values-length.true
    ]

pub returns-then-not-fit_run : goal.returns-then-not-fit_run
returns-then-not-fit_run c = sizes_differ _ _ _ _ c.validate.ensures c.in_ok-validate.was _ c.expanded_length-length.ensures c.if-expansion-length.false c.if-values-length.false _ c.fit_run.ensures c.if-not-fit_run.true

pub returns : goal.returns
returns c = all_fits _ _ _ _ c.validate.ensures c.in_ok-validate.was _ c.expanded_length-length.ensures c.if-expansion-length.false c.if-values-length.false _ c.fit_run.ensures c.if-not-fit_run.false
