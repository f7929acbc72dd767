-- `build`: the expansion and the map make the tables that `Begun` describes; zeroing does the rest. Assumes nothing.
use mathlib.Core.Path.{◌∙◌}
use Rattle.compile.specs.CallLaws.{accepts, expands, begun, begun_mapped, built_call}
use Rattle.compile.proofs.build.Goals as goal

pub expand-requires : goal.expand-requires
expand-requires c = (accepts _ _ c.requires).judged

pub returns-in_err-expand : goal.returns-in_err-expand
returns-in_err-expand c = absurd (expands _ _ (accepts _ _ c.requires) _ _ c.expand.ensures c.in_err-expand.was)

pub compile_expanded-compilation-requires : goal.compile_expanded-compilation-requires
compile_expanded-compilation-requires c = let a = accepts _ _ c.requires in let g = begun _ _ a _ _ _ _ _ c.expanded_length-count.ensures c.expand.ensures c.map_nodes.ensures in begun_mapped _ _ a _ _ _ g

pub returns : goal.returns
returns c = let a = accepts _ _ c.requires in let g = begun _ _ a _ _ _ _ _ c.expanded_length-count.ensures c.expand.ensures c.map_nodes.ensures in built_call _ _ _ a _ _ _ g c.compile_expanded-compilation.result c.compile_expanded-compilation.new.steps c.compile_expanded-compilation.new.instructions c.compile_expanded-compilation.new.work _ _ _ c.compile_expanded-compilation.ensures c.compile_expanded-compilation.auto.steps c.compile_expanded-compilation.auto.instructions (c.compile_expanded-compilation.auto.work ∙ c.map_nodes.auto.table) c.clear.ensures c.requires
