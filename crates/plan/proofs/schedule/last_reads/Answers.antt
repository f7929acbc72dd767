-- `last_reads`: before turn i the first i nodes have had theirs. Assumes nothing.
use mathlib.Core.Path.{refl, sym, ◌∙◌}
use native.Mathlib.Omega.{arith}
use Rattle.tables.specs.Loops.{turns_start, turns_next}
use Rattle.plan.specs.Chains.{last_node}
use Rattle.plan.specs.LastLaws.{turns_kept}
use Rattle.plan.proofs.schedule.last_reads.Goals as goal

pub loop-i-init : goal.loop-i-init
loop-i-init c = (refl, sym (turns_start (last_node c.args.flow.now.sizes.nodes c.args.flow.now.nodes.now) _))

pub last_node-requires : goal.last_node-requires
last_node-requires c = (rw c.loop-i.invariant.0 c.requires.0, turns_kept _ _ _ _ _ c.requires.1 c.loop-i.invariant.1, c.loop-i-test.true)

pub loop-i-preserved : goal.loop-i-preserved
loop-i-preserved c = (omega (arith, c.loop-i.invariant.0), c.last_node.ensures ∙ turns_next (last_node c.args.flow.now.sizes.nodes c.args.flow.now.nodes.now) _ c.loop-i.i _ c.loop-i.invariant.1)
