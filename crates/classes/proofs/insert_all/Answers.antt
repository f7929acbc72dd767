-- `classes::insert_all` meets its contract. Assumes nothing.
use mathlib.Core.Path.{refl, ◌∙◌}
use borrow.Author.Rules.{rules}
use Rattle.classes.proofs.insert_all.Goals as goal

pub loop-node-init : goal.loop-node-init
loop-node-init c = (refl, (c.requires, λ i h. refl))

pub insert-requires : goal.insert-requires
insert-requires c = (c.loop-node.invariant.1.0, c.loop-node-test.true)

pub loop-node-preserved : goal.loop-node-preserved
loop-node-preserved c = (search rules, (c.insert.ensures.0, λ i h. c.insert.ensures.1 i h ∙ c.loop-node.invariant.1.1 i h))

pub shape_of-work : goal.shape_of-work
shape_of-work c = c.loop-node.invariant.0
