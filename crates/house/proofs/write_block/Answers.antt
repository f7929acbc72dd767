-- `write_block`: each way out is a case of the definition; a valid block is small. Assumes nothing.
use Rattle.std.proofs.Common.{◌*◌, arith}
use Rattle.block.specs.Block.{the_block}
use Rattle.house.specs.ReadLaws.{err_is}
use Rattle.house.specs.WriteLaws.{small, block_invalid, block_short, block_written, block_valid, block_need}
use Rattle.house.proofs.write_block.Goals as goal

pub returns-in_err-validate : goal.returns-in_err-validate
returns-in_err-validate c = rw (err_is _ _ c.from_residual.ensures.1) (block_invalid (the_block c.args.block.now) _ c.validate.ensures c.in_err-validate.was)

pub contents_of-contents-requires : goal.contents_of-contents-requires
contents_of-contents-requires c = small (the_block c.args.block.now) (block_valid (the_block c.args.block.now) c.validate.ensures c.in_ok-validate.was)

pub blocks_for-need-requires : goal.blocks_for-need-requires
blocks_for-need-requires c = let s = small (the_block c.args.block.now) (block_valid (the_block c.args.block.now) c.validate.ensures c.in_ok-validate.was) in omega arith

pub overflow_mul-need : goal.overflow_mul-need
overflow_mul-need c = let s = small (the_block c.args.block.now) (block_valid (the_block c.args.block.now) c.validate.ensures c.in_ok-validate.was) in omega (arith, c.blocks_for-need.ensures)

pub returns-then-bytes-need : goal.returns-then-bytes-need
returns-then-bytes-need c = block_short (the_block c.args.block.now) _ (block_valid (the_block c.args.block.now) c.validate.ensures c.in_ok-validate.was) (512 * c.blocks_for-need.result) (block_need (the_block c.args.block.now) _ c.blocks_for-need.ensures) c.if-bytes-need.true

pub write_file-requires-clause-small : goal.write_file-requires-clause-small
write_file-requires-clause-small c = let s = small (the_block c.args.block.now) (block_valid (the_block c.args.block.now) c.validate.ensures c.in_ok-validate.was) in omega arith

pub returns : goal.returns
returns c = block_written (the_block c.args.block.now) _ (block_valid (the_block c.args.block.now) c.validate.ensures c.in_ok-validate.was) (512 * c.blocks_for-need.result) (block_need (the_block c.args.block.now) _ c.blocks_for-need.ensures) c.if-bytes-need.false c.contents_of-contents.ensures c.write_file.ensures
