-- `copy_tables` copies four sections, one behind the other. Assumes nothing.
use Rattle.std.proofs.Common.{arith}
use Rattle.house.specs.ReadLaws.{tables_room, tables_read}
use Rattle.house.proofs.effect.copy_tables.Goals as goal

pub copy_section-requires : goal.copy_section-requires
copy_section-requires c = let r = tables_room _ _ c.requires.1 in let e = c.requires.0 in (omega arith, r.parameters)

pub copy_section-requires-2 : goal.copy_section-requires-2
copy_section-requires-2 c = let r = tables_room _ _ c.requires.1 in let e = c.requires.0 in (omega (arith, c.states_at-first.ensures), r.states)

pub copy_section-requires-3 : goal.copy_section-requires-3
copy_section-requires-3 c = let r = tables_room _ _ c.requires.1 in let e = c.requires.0 in (omega (arith, c.delays_at-second.ensures), r.delays)

pub copy_section-requires-4 : goal.copy_section-requires-4
copy_section-requires-4 c = let r = tables_room _ _ c.requires.1 in let e = c.requires.0 in (omega (arith, c.nodes_at-third.ensures), r.nodes)

pub returns-clause-read : goal.returns-clause-read
returns-clause-read c = tables_read _ _ _ c.copy_section.ensures c.states_at-first.ensures c.copy_section-2.ensures c.delays_at-second.ensures c.copy_section-3.ensures c.nodes_at-third.ensures c.copy_section-4.ensures
