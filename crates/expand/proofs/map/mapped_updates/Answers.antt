-- `mapped_updates`: before turn i the first i words are the mapped updates. Assumes nothing.
use mathlib.Core.List.{[]}
use Rattle.expand.specs.Updates.{list_start, list_next, mapped_end}
use lib.ListN.{length-set}
use Rattle.tables.specs.Zeros.{zeros_length}
use native.Mathlib.Omega.{arith}
use Rattle.expand.proofs.map.mapped_updates.Goals as goal

pub loop-i-init : goal.loop-i-init
loop-i-init c = (zeros_length 4096, list_start _ [])

pub loop-i-preserved : goal.loop-i-preserved
loop-i-preserved c = (simp length-set c.loop-i.invariant.0, list_next _ _ _ _ (omega (arith, c.loop-i.invariant.0, c.requires.few)) c.loop-i.invariant.1 c.mapped_update.ensures)

pub returns : goal.returns
returns c = mapped_end _ _ _ c.loop-i.i (omega (arith, c.loop-i.auto.i-end, c.loop-i-test.false)) c.loop-i.invariant.1
