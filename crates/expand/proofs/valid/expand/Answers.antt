-- `expand` of a valid block: its map has room, and its operands stand before their nodes. Assumes nothing.
use Rattle.expand.specs.Calls.{expand_short, map_room, output_within, all_ready, expand_done}
use Rattle.expand.proofs.valid.expand.Goals as goal

pub returns-then-table-total : goal.returns-then-table-total
returns-then-table-total c = expand_short _ _ _ c.requires c.expanded_length-total.ensures c.if-table-total.true

pub write_map-requires : goal.write_map-requires
write_map-requires c = map_room _ c.args.table.now _ c.requires c.expanded_length-total.ensures c.if-table-total.false

pub bounds-table-index : goal.bounds-table-index
bounds-table-index c = output_within _ _ _ c.requires c.expanded_length-total.ensures c.if-table-total.false _ c.write_map.ensures

pub expand_nodes-requires : goal.expand_nodes-requires
expand_nodes-requires c = all_ready _ _ _ c.requires c.expanded_length-total.ensures c.if-table-total.false _ c.write_map.ensures

pub returns : goal.returns
returns c = expand_done _ _ _ c.requires c.expanded_length-total.ensures c.if-table-total.false _ _ c.write_map.ensures c.expand_nodes.ensures
