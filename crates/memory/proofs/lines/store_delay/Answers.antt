-- `store_delay`: the part from base to base plus length is the line, and the store in it is the line's store in the area. Assumes nothing.
use native.Mathlib.Omega.{arith}
use Rattle.memory.specs.LineLaws.{reached, part_room, part_stored}
use Rattle.memory.specs.LentLaws.{within_reach}
use Rattle.memory.proofs.lines.store_delay.Goals as goal

pub bounds-lines-i-2 : goal.bounds-lines-i-2
bounds-lines-i-2 c = let q = reached (within_reach c.args.lines.now c.requires.fit c.requires.inside) in omega arith

pub slice_bounds-store_and_advance-end : goal.slice_bounds-store_and_advance-end
slice_bounds-store_and_advance-end c = let q = reached (within_reach c.args.lines.now c.requires.fit c.requires.inside) in omega arith

pub store_and_advance-next-requires : goal.store_and_advance-next-requires
store_and_advance-next-requires c =
    let r = part_room (within_reach c.args.lines.now c.requires.fit c.requires.inside) in
    record { inside = r.0; small = r.1 }

pub returns : goal.returns
returns c = λ states. part_stored (within_reach c.args.lines.now c.requires.fit c.requires.inside) states _ c.store_and_advance-next.ensures
