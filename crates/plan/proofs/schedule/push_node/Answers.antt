-- `push_node`: a law for each way out. Assumes nothing.
use Rattle.plan.specs.Layout.{room_in}
use Rattle.plan.specs.ChainLaws.{node_none, node_ready, node_some}
use mathlib.Core.Path.{ap}
use mathlib.Core.Bool.{not}
use Rattle.plan.proofs.schedule.push_node.Goals as goal

pub returns-then-not-is_sample_computation : goal.returns-then-not-is_sample_computation
returns-then-not-is_sample_computation c = node_none _ _ _ _ _ _ c.is_sample_computation.ensures (ap not c.if-not-is_sample_computation.true)

pub push_chain-requires : goal.push_chain-requires
push_chain-requires c = rw c.tasks.ensures (node_ready _ _ _ _ _ _ c.is_sample_computation.ensures (ap not c.if-not-is_sample_computation.false) c.requires.3 (room_in _ _ _ c.requires.0) c.requires.1 c.requires.2)

pub returns : goal.returns
returns c = node_some _ _ _ _ _ _ c.is_sample_computation.ensures (ap not c.if-not-is_sample_computation.false) c.requires.3 _ _ (rw c.tasks.ensures at c.push_chain.ensures)
