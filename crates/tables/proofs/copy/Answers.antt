-- `copy` meets its contract: before turn i the table `to` is the one at entry with the first i words of `from` over it (specs/Zeros). Assumes nothing.
use mathlib.Core.Path.{refl, ◌∙◌}
use native.Mathlib.Omega.{arith}
use lib.ListN.{length-set}
use Rattle.tables.specs.Zeros.{copied_start, copied_next, copied_end}
use Rattle.tables.proofs.copy.Goals as goal

pub loop-i-init : goal.loop-i-init
loop-i-init c = (refl, copied_start c.args.from.now _)

pub loop-i-preserved : goal.loop-i-preserved
loop-i-preserved c =
    let v = c.loop-i.invariant in
    (simp length-set v.0, copied_next c.args.from.now _ _ c.loop-i.i (omega arith) v.1)

pub returns : goal.returns
returns c =
    let v = c.loop-i.invariant in
    v.1 ∙ copied_end c.args.from.now c.args.to.now c.loop-i.i (omega arith) (omega arith)
