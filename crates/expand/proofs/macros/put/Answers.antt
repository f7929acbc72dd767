-- `put`: three stores in a row are one run of stores. Assumes nothing.
use native.Mathlib.Omega.{arith}
use native.Mathlib.Numerals.{towards_suc}
use lib.ListN.{length-set}
use Rattle.expand.specs.Writes.{write}
use Rattle.expand.proofs.macros.put.Goals as goal

pub bounds-table-at-2 : goal.bounds-table-at-2
bounds-table-at-2 c = simp length-set (omega arith)

pub bounds-table-at-3 : goal.bounds-table-at-3
bounds-table-at-3 c = simp length-set (omega arith)

pub returns : goal.returns
unfolding write
returns c = simp towards_suc
