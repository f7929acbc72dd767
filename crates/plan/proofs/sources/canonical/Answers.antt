-- `canonical`: before turn i the first i nodes have had theirs. Assumes nothing.
use mathlib.Core.Path.{refl, sym, ◌∙◌}
use native.Mathlib.Omega.{arith}
use Rattle.tables.specs.Loops.{turns_start, turns_next}
use Rattle.plan.specs.SourceLaws.{canonical_node}
use Rattle.plan.proofs.sources.canonical.Goals as goal

pub loop-i-init : goal.loop-i-init
loop-i-init c = (refl, sym (turns_start (canonical_node c.args.flow.now.sizes c.args.control c.args.flow.now.nodes.now) _))

pub canonical_node-requires : goal.canonical_node-requires
canonical_node-requires c = (rw c.loop-i.invariant.0 c.requires, c.loop-i-test.true)

pub loop-i-preserved : goal.loop-i-preserved
loop-i-preserved c = (omega (arith, c.loop-i.invariant.0), c.canonical_node.ensures ∙ turns_next (canonical_node c.args.flow.now.sizes c.args.control c.args.flow.now.nodes.now) _ c.loop-i.i _ c.loop-i.invariant.1)
