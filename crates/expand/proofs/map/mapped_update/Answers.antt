-- `mapped_update`: 0 stays none, and the map has every other update. Assumes nothing.
use Rattle.expand.specs.Updates.{mapped_word}
use Rattle.expand.specs.Updates.{mapped_some}
use mathlib.Core.Path.{sym}
use Prim.Native.Nat.{◌*◌, ◌+◌}
use borrow.Author.Tests.{eq-eqb}
use native.Mathlib.Omega.{arith}
use Rattle.expand.proofs.map.mapped_update.Goals as goal

pub overflow_cast-update : goal.overflow_cast-update
overflow_cast-update c = omega (arith, c.type_inv.memories (2 * c.args.i + 1))

pub returns-then-update-eq0 : goal.returns-then-update-eq0
unfolding mapped_word
returns-then-update-eq0 c = rw (eq-eqb _ _ c.if-update-eq0.true)

pub offset_bounds-map-update : goal.offset_bounds-map-update
offset_bounds-map-update c = omega (arith, c.requires.0.inside c.args.i c.requires.1)

pub bounds-map-update : goal.bounds-map-update
bounds-map-update c = omega (arith, c.requires.0.inside c.args.i c.requires.1)

pub overflow_add-result : goal.overflow_add-result
overflow_add-result c = omega (arith, mapped_some c.args.map.now c.args.memories.now c.args.i c.if-update-eq0.false, c.requires.0.small c.args.i c.requires.1)

pub returns : goal.returns
returns c = sym (mapped_some _ _ _ c.if-update-eq0.false)
