-- `compile_expanded`: the parts that both phases are lent are the expanded block. Assumes nothing.
use Rattle.compile.specs.CallLaws.{mapped_begun, mapped_leave}
use Rattle.compile.proofs.compile_expanded.Goals as goal

pub phases-requires : goal.phases-requires
phases-requires c = rw c.counts-counts.ensures (mapped_begun c.args.count c.args.block.now.header.output c.args.block.now.states.now c.args.block.now.delays.now c.args.expansion.now c.args.steps.now c.args.instructions.now c.args.work.now c.requires _ _ c.mapped_updates-updates.ensures c.mapped_updates-stores.ensures c.zero.new.table c.zero.ensures)

pub returns : goal.returns
returns c = mapped_leave c.args.count c.args.block.now.header.output c.args.block.now.states.now c.args.block.now.delays.now c.args.expansion.now c.args.steps.now c.args.instructions.now c.args.work.now c.requires _ _ c.mapped_updates-updates.ensures c.mapped_updates-stores.ensures _ _ _ _ (rw c.counts-counts.ensures at c.phases.ensures)
