-- `review`: the expansion and the map make the tables that `Begun` describes, whose listing is the block's; zeroing does the rest. Assumes nothing.
use Rattle.checker.specs.CheckLaws.{accepted_check, expands, begun, begun_planned, checked_call}
use Rattle.checker.proofs.review.Goals as goal

pub expand-requires : goal.expand-requires
expand-requires c = (accepted_check _ _ _ _ _ c.requires).judged

pub returns-in_err-expand : goal.returns-in_err-expand
returns-in_err-expand c = absurd (expands _ _ _ _ _ (accepted_check _ _ _ _ _ c.requires) _ _ c.expand.ensures c.in_err-expand.was)

pub walk_block-verdict-requires : goal.walk_block-verdict-requires
walk_block-verdict-requires c = let a = accepted_check _ _ _ _ _ c.requires in begun_planned _ _ _ _ _ a _ _ _ (begun _ _ _ _ _ a _ _ _ _ _ c.expanded_length-count.ensures c.expand.ensures c.map_nodes.ensures) _

pub returns : goal.returns
returns c = let a = accepted_check _ _ _ _ _ c.requires in let g = begun _ _ _ _ _ a _ _ _ _ _ c.expanded_length-count.ensures c.expand.ensures c.map_nodes.ensures in checked_call _ _ _ _ _ a _ _ _ g _ _ c.walk_block-verdict.new.work c.walk_block-verdict.result c.zero.ensures c.walk_block-verdict.auto.work c.walk_block-verdict.ensures c.requires
