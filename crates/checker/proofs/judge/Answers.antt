-- `judge`: each way out is a case of `check_judged`. Assumes nothing.
use Rattle.checker.specs.CheckLaws.{few, refused_block, short_table, all_long}
use native.Mathlib.Omega.{arith}
use Rattle.checker.proofs.judge.Goals as goal

pub returns-in_err-validate : goal.returns-in_err-validate
returns-in_err-validate c = refused_block _ _ _ _ _ _ c.validate.ensures _ c.in_err-validate.was c.from_residual.ensures.1

pub shorter-requires : goal.shorter-requires
shorter-requires c = rw c.counts.ensures (omega (arith, c.expanded_length-nodes.ensures), few _ _ c.validate.ensures c.in_ok-validate.was)

pub returns-then-shorter : goal.returns-then-shorter
returns-then-shorter c = short_table _ _ _ _ _ _ c.validate.ensures c.in_ok-validate.was _ c.expanded_length-nodes.ensures _ (rw c.counts.ensures at c.shorter.ensures) c.if-shorter.true

pub returns : goal.returns
returns c = all_long _ _ _ _ _ _ c.validate.ensures c.in_ok-validate.was _ c.expanded_length-nodes.ensures _ (rw c.counts.ensures at c.shorter.ensures) c.if-shorter.false
