-- `classes::insert` meets its contract. Assumes nothing.
use native.Mathlib.Omega.{arith}
use lib.ListN.{length-set}
use Rattle.classes.specs.Index.{filled_ready, filled_new, filled_old, code_small, walk_in}
use Rattle.classes.proofs.insert.Goals as goal

pub keys_of-keys-requires : goal.keys_of-keys-requires
keys_of-keys-requires c = let f = c.requires.0 in (omega (arith, f.long, c.requires.1), code_small f c.requires.1)

pub bounds-work-cell-then-word-eq0 : goal.bounds-work-cell-then-word-eq0
bounds-work-cell-then-word-eq0 c = simp length-set (walk_in (filled_ready c.requires.0) _ _ _ _ (code_small c.requires.0 c.requires.1) (rw c.keys_of-keys.ensures.code at c.find_cell-cell.ensures)).0

pub returns-then-word-eq0 : goal.returns-then-word-eq0
returns-then-word-eq0 c = filled_new c.requires.0 c.requires.1 _ _ _ c.keys_of-keys.ensures.first c.keys_of-keys.ensures.second (rw c.keys_of-keys.ensures.code at c.find_cell-cell.ensures) c.if-word-eq0.true

pub returns : goal.returns
returns c = filled_old c.requires.0 c.requires.1 _ _ _ c.keys_of-keys.ensures.first c.keys_of-keys.ensures.second (rw c.keys_of-keys.ensures.code at c.find_cell-cell.ensures) c.if-word-eq0.false
