-- `classes::find_cell` meets its contract. Assumes nothing.
use mathlib.Core.Path.{sym, ◌∙◌}
use native.Mathlib.Omega.{arith}
use Rattle.classes.specs.Index.{ready_room, going_start, going_in, going_node, going_hit, going_end, going_turn, going_less}
use Rattle.classes.proofs.find_cell.Goals as goal

pub root-cell-requires : goal.root-cell-requires
root-cell-requires c = c.requires.filled.small

pub offset_bounds-work-cell : goal.offset_bounds-work-cell
offset_bounds-work-cell c = rw c.root-cell.ensures (omega (arith, (going_in c.requires (going_start c.requires c.args.keys.code c.args.keys.first c.args.keys.second c.args.keys.listed)).1, c.requires.filled.small))

pub bounds-work-cell : goal.bounds-work-cell
bounds-work-cell c = rw c.root-cell.ensures (going_in c.requires (going_start c.requires c.args.keys.code c.args.keys.first c.args.keys.second c.args.keys.listed)).0

pub loop-word-init : goal.loop-word-init
loop-word-init c = λ r. rw c.root-cell.ensures (going_start r _ _ _ c.args.keys.listed)

pub has_keys-requires : goal.has_keys-requires
has_keys-requires c = omega (arith, going_node c.requires (c.loop-word.invariant c.requires) c.loop-word-test.true, ready_room c.requires)

pub returns-then-has_keys : goal.returns-then-has_keys
returns-then-has_keys c = going_hit c.requires (c.loop-word.invariant c.requires) c.loop-word-test.true (sym c.has_keys.ensures ∙ c.if-has_keys.true)

pub bounds-work-cell-in-loop-word : goal.bounds-work-cell-in-loop-word
bounds-work-cell-in-loop-word c = omega (arith, going_node c.requires (c.loop-word.invariant c.requires) c.loop-word-test.true, ready_room c.requires)

pub loop-word-smaller : goal.loop-word-smaller
loop-word-smaller c = going_less c.requires (c.loop-word.invariant c.requires) c.loop-word-test.true

pub loop-word-preserved : goal.loop-word-preserved
loop-word-preserved c = λ r. going_turn r (c.loop-word.invariant r) c.loop-word-test.true (sym c.has_keys.ensures ∙ c.if-has_keys.false)

pub returns : goal.returns
returns c = going_end c.requires (c.loop-word.invariant c.requires) c.loop-word-test.false
