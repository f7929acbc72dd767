-- `judge`: each way out is a case of `compile_judged`. Assumes nothing.
use native.Mathlib.Omega.{arith}
use Rattle.compile.specs.CallLaws.{few, refused_block, short_table, all_long}
use Rattle.compile.proofs.judge.Goals as goal

pub returns-in_err-validate : goal.returns-in_err-validate
returns-in_err-validate c = refused_block _ _ _ c.validate.ensures _ c.in_err-validate.was c.from_residual.ensures.1

pub shorter-requires : goal.shorter-requires
shorter-requires c = let f = few _ _ c.validate.ensures c.in_ok-validate.was in rw c.counts-counts.ensures (omega (arith, c.expanded_length.ensures), omega (arith, f.0, f.1))

pub returns-then-shorter : goal.returns-then-shorter
returns-then-shorter c = short_table _ _ _ c.validate.ensures c.in_ok-validate.was _ c.expanded_length.ensures _ (rw c.counts-counts.ensures at c.shorter.ensures) c.if-shorter.true

pub returns : goal.returns
returns c = all_long _ _ _ c.validate.ensures c.in_ok-validate.was _ c.expanded_length.ensures _ (rw c.counts-counts.ensures at c.shorter.ensures) c.if-shorter.false
