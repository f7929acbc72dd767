-- `judge_block` looks at the check before the rest of the frame. Assumes nothing.
use Rattle.std.proofs.Common.{sym, ◌∙◌}
use Rattle.house.specs.FrameLaws.{judged_check, judged_bad, judged_good}
use Rattle.house.proofs.frame.judge_block.Goals as goal

pub returns-then-block_sum : goal.returns-then-block_sum
returns-then-block_sum c = judged_check _ _ _ _ _ _ _ c.block_sum.ensures c.if-block_sum.true

pub returns-then-bad_block : goal.returns-then-bad_block
returns-then-bad_block c = judged_bad _ _ _ _ _ _ _ c.block_sum.ensures c.if-block_sum.false (sym c.bad_block.ensures ∙ c.if-bad_block.true)

pub returns : goal.returns
returns c = judged_good _ _ _ _ _ _ _ c.block_sum.ensures c.if-block_sum.false (sym c.bad_block.ensures ∙ c.if-bad_block.false)
