-- `walk_block`: the parts that the walk is lent make the planned listing. Assumes nothing.
use Rattle.checker.specs.CheckLaws.{same_fit, same_walk}
use Rattle.checker.proofs.walk_block.Goals as goal

pub mapped_updates-updates-requires : goal.mapped_updates-updates-requires
mapped_updates-updates-requires c = c.requires.held

pub mapped_updates-stores-requires : goal.mapped_updates-stores-requires
mapped_updates-stores-requires c = c.requires.lines

pub walk_list-requires : goal.walk_list-requires
walk_list-requires c = rw c.counts-counts.ensures (same_fit _ _ _ _ _ _ _ _ _ c.mapped_updates-updates.ensures c.mapped_updates-stores.ensures c.requires.fit)

pub returns : goal.returns
returns c = same_walk _ _ _ _ _ _ _ _ _ _ _ _ _ c.mapped_updates-updates.ensures c.mapped_updates-stores.ensures (rw c.counts-counts.ensures at c.walk_list.ensures)
