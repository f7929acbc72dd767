-- `read_block`: each way out is a case of the definition. Assumes nothing.
use Rattle.std.proofs.Common.{sym, ◌∙◌}
use Rattle.house.specs.Lent.{the_tables}
use Rattle.house.specs.ReadLaws.{frame_valid, frame_long, err_is, block_frame, block_length, block_short, block_room, block_done}
use Rattle.house.proofs.read_block.Goals as goal

pub returns-in_err-judge-clause-read : goal.returns-in_err-judge-clause-read
returns-in_err-judge-clause-read c = rw (err_is _ _ c.from_residual.ensures.1) (block_frame _ _ c.judge.ensures c.in_err-judge.was)

pub contents-read-requires : goal.contents-read-requires
contents-read-requires c = frame_long _ _ _ (frame_valid _ _ _ c.judge.ensures c.in_ok-judge.was)

pub payload_length-requires : goal.payload_length-requires
payload_length-requires c = frame_long _ _ _ (frame_valid _ _ _ c.judge.ensures c.in_ok-judge.was)

pub returns-then-payload_length-contents_end-clause-read : goal.returns-then-payload_length-contents_end-clause-read
returns-then-payload_length-contents_end-clause-read c = block_length _ _ (frame_valid _ _ _ c.judge.ensures c.in_ok-judge.was) _ _ _ c.contents-read.ensures c.contents_end.ensures c.payload_length.ensures c.if-payload_length-contents_end.true

pub returns-then-tables_short-clause-read : goal.returns-then-tables_short-clause-read
returns-then-tables_short-clause-read c = block_short _ _ (frame_valid _ _ _ c.judge.ensures c.in_ok-judge.was) _ _ _ c.contents-read.ensures c.contents_end.ensures c.payload_length.ensures c.if-payload_length-contents_end.false (sym c.tables_short.ensures ∙ c.if-tables_short.true)

pub copy_tables-requires : goal.copy_tables-requires
copy_tables-requires c = (block_room _ (the_tables c.args.tables.now) (frame_valid _ _ _ c.judge.ensures c.in_ok-judge.was) _ _ _ c.contents-read.ensures c.contents_end.ensures c.payload_length.ensures c.if-payload_length-contents_end.false, sym c.tables_short.ensures ∙ c.if-tables_short.false)

pub returns-clause-read : goal.returns-clause-read
returns-clause-read c = block_done _ _ (frame_valid _ _ _ c.judge.ensures c.in_ok-judge.was) _ _ _ c.contents-read.ensures c.contents_end.ensures c.payload_length.ensures c.if-payload_length-contents_end.false (sym c.tables_short.ensures ∙ c.if-tables_short.false) c.copy_tables.ensures.read
