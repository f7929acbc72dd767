-- `render`: the expansion and the map make the tables that `Begun` describes, whose graph is the block's; zeroing does the rest. Assumes nothing.
use lib.ListN.{length}
use native.Mathlib.Omega.{arith}
use Rattle.std.proofs.Common.{rules}
use Rattle.graph_run.specs.CallLaws.{accepted_run, begun, begun_planned, begun_lent, render_is}
use Rattle.graph_run.proofs.render.Goals as goal

pub expand-requires : goal.expand-requires
expand-requires c = (accepted_run _ _ _ c.requires).judged

pub play-requires : goal.play-requires
play-requires c =
    let a = accepted_run _ _ _ c.requires in
    let g = begun _ _ _ _ _ _ _ _ c.requires c.expanded_length-count.ensures c.expand.ensures c.map_nodes.ensures in
    record { planned = begun_planned _ _ _ a _ _ _ g; lent = begun_lent _ _ _ a _ _ _ g }

pub returns-clause-rendered : goal.returns-clause-rendered
returns-clause-rendered c =
    let a = accepted_run _ _ _ c.requires in
    let g = begun _ _ _ _ _ _ _ _ c.requires c.expanded_length-count.ensures c.expand.ensures c.map_nodes.ensures in
    render_is _ _ _ a _ _ _ g _ _ (length c.play.new.values) (search rules) (omega (arith, c.play.auto.values, c.map_nodes.auto.table)) c.play.ensures.rendered
