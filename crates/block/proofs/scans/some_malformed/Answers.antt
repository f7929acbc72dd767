-- `some_malformed`: the test is that of the node's words.
use Rattle.std.proofs.Common.{rules}
use Rattle.block.specs.Validation.{malformed_node}
use Rattle.block.proofs.scans.some_malformed.Goals as goal

pub returns : goal.returns
unfolding malformed_node
returns c = c.some_node.ensures (malformed_node c.args.nodes.now) (λ i b p. search rules)
