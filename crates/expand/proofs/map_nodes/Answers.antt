-- `map_nodes`: each way out is a case of the definition. Assumes nothing.
use Rattle.expand.specs.MapLaws.{map_short, map_large, map_done}
use Rattle.expand.proofs.map_nodes.Goals.{then-table-nodes-via-then-table-nodes, then-table-nodes-via-else-table-nodes+then-expanded_length-gt-MOST_NODES}
use Rattle.expand.proofs.map_nodes.Goals as goal

pub returns-then-table-nodes : goal.returns-then-table-nodes
returns-then-table-nodes c =
    elim c.then-table-nodes.branch [
      | then-table-nodes-via-then-table-nodes w ↦ map_short _ _ w.if-table-nodes.true
      | then-table-nodes-via-else-table-nodes+then-expanded_length-gt-MOST_NODES w ↦
          map_large _ _ _ w.expanded_length.ensures w.if-table-nodes.false w.if-expanded_length-gt-MOST_NODES.true
    ]

pub returns : goal.returns
returns c = map_done _ _ _ c.expanded_length.ensures c.if-table-nodes.false _ c.if-expanded_length-gt-MOST_NODES.false c.write_map.ensures
