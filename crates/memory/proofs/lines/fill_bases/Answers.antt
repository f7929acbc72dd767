-- `fill_bases`: before turn i the base is the sum of the lengths before line i, and the first i words are the bases. Assumes nothing.
use mathlib.Core.Path.{sym, ◌∙◌}
use native.Mathlib.Omega.{arith}
use Rattle.tables.specs.Loops.{sum_start, sum_turn}
use Rattle.tables.specs.Lists.{filled_start}
use Rattle.memory.specs.LineLaws.{bases_room, bases_next, bases_end}
use Rattle.memory.proofs.lines.fill_bases.Goals as goal

pub loop-i-init : goal.loop-i-init
loop-i-init c = (sym (sum_start _), c.requires.empty ∙ filled_start _ _)

pub overflow_add-base : goal.overflow_add-base
overflow_add-base c = omega (arith, bases_room _ c.requires.small c.loop-i.i c.loop-i-test.true)

pub loop-i-preserved : goal.loop-i-preserved
loop-i-preserved c =
    let e = c.loop-i.invariant in
    (sum_turn _ _ _ e.0, bases_next _ c.requires.small _ c.loop-i-test.true _ _ e.0 e.1)

pub returns : goal.returns
returns c = bases_end _ _ c.loop-i.i (omega arith) c.loop-i.invariant.1
