-- `read_rendering`: each way out is a case of the definition. Assumes nothing.
use Rattle.std.proofs.Common.{arith}
use Rattle.house.specs.ReadLaws.{frame_valid, frame_long, err_is, rendering_frame, rendering_length, rendering_short, rendering_room, rendering_done}
use Rattle.house.proofs.read_rendering.Goals as goal

pub returns-in_err-judge : goal.returns-in_err-judge
returns-in_err-judge c = rw (err_is _ _ c.from_residual.ensures.1) (rendering_frame _ _ c.judge.ensures c.in_err-judge.was)

pub first_word-held-requires : goal.first_word-held-requires
first_word-held-requires c = (frame_long _ _ _ (frame_valid _ _ _ c.judge.ensures c.in_ok-judge.was), omega arith)

pub payload_length-requires : goal.payload_length-requires
payload_length-requires c = frame_long _ _ _ (frame_valid _ _ _ c.judge.ensures c.in_ok-judge.was)

pub returns-then-payload_length-count : goal.returns-then-payload_length-count
returns-then-payload_length-count c = rendering_length _ _ (frame_valid _ _ _ c.judge.ensures c.in_ok-judge.was) _ _ c.first_word-held.ensures c.payload_length.ensures c.if-payload_length-count.true

pub returns-then-samples-count : goal.returns-then-samples-count
returns-then-samples-count c = rendering_short _ _ (frame_valid _ _ _ c.judge.ensures c.in_ok-judge.was) _ _ c.first_word-held.ensures c.payload_length.ensures c.if-payload_length-count.false c.if-samples-count.true

pub copy_section-requires : goal.copy_section-requires
copy_section-requires c = (rendering_room _ c.args.samples.now (frame_valid _ _ _ c.judge.ensures c.in_ok-judge.was) _ _ c.first_word-held.ensures c.payload_length.ensures c.if-payload_length-count.false, c.if-samples-count.false)

pub block_word-requires : goal.block_word-requires
block_word-requires c = let l = frame_long _ _ _ (frame_valid _ _ _ c.judge.ensures c.in_ok-judge.was) in omega arith

pub returns : goal.returns
returns c = rendering_done _ _ (frame_valid _ _ _ c.judge.ensures c.in_ok-judge.was) _ _ c.first_word-held.ensures c.payload_length.ensures c.if-payload_length-count.false c.if-samples-count.false c.copy_section.ensures c.block_word.ensures c.engine_of-engine.ensures
