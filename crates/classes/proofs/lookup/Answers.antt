-- `classes::lookup` meets its contract. Assumes nothing.
use native.Mathlib.Omega.{arith}
use Rattle.classes.specs.Index.{filled_ready, filled_finds, walk_in}
use Rattle.classes.proofs.lookup.Goals as goal

pub find_cell-cell-requires : goal.find_cell-cell-requires
find_cell-cell-requires c = filled_ready c.requires

pub offset_bounds-work-cell : goal.offset_bounds-work-cell
offset_bounds-work-cell c = omega (arith, (walk_in (filled_ready c.requires) _ _ _ _ c.args.keys.listed c.find_cell-cell.ensures).1, c.requires.small)

pub bounds-work-cell : goal.bounds-work-cell
bounds-work-cell c = (walk_in (filled_ready c.requires) _ _ _ _ c.args.keys.listed c.find_cell-cell.ensures).0

pub returns : goal.returns
returns c = filled_finds c.requires _ _ _ _ c.args.keys.listed c.find_cell-cell.ensures
