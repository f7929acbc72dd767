-- `expand_node`: the words handed to `write_node` are the node's own, with operands as the table maps them. Assumes nothing.
use mathlib.Core.Path.{◌≡◌, refl, ◌∙◌}
use native.Mathlib.Omega.{arith}
use Rattle.block.specs.Kinds.{length_of}
use Rattle.expand.specs.Lengths.{length_is}
use Rattle.expand.specs.InPlace.{expand_mapped}
use Rattle.expand.proofs.in_place.expand_node.Goals as goal

pub write_node-requires : goal.write_node-requires
write_node-requires c = let e : length_of c.args.steps c.from-kind.result ≡ _ = length_is c.args.steps c.args.nodes.now c.args.i refl c.from-kind.ensures in omega arith

pub returns : goal.returns
returns c = let g = c.args in c.write_node.ensures ∙ rw (c.from-kind.ensures, expand_mapped g.steps g.nodes.now g.table.now g.i g.k c.mapped_operand-first.result c.mapped_operand-second.result c.requires (c.mapped_operand-first.ensures ∙ rw (c.operands-operands.ensures, c.from-kind.ensures)) (c.mapped_operand-second.ensures ∙ rw (c.operands-operands.ensures, c.from-kind.ensures)))
