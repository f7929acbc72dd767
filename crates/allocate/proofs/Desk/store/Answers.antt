-- `store`: there is room for the write. Assumes nothing.
use Rattle.std.proofs.Common.{◌≤◌, arith}
use Rattle.allocate.specs.TaskReady.{preserved_then}
use Rattle.allocate.proofs.Desk.store.Goals as goal

pub write-requires : goal.write-requires
write-requires c =
    let q = c.requires in
    let h : c.home_of-home.result ≤ c.args.frame.nodes = rw c.home_of-home.ensures q.ready.1.0 in
    let t = preserved_then _ _ _ q.ready.0 _ _ h q.room.0 _ c.in_ok-preserve.ensures.done in
    record { wide = (t.1.wide, h); steps_in_bounds = (t.0.steps, (omega (arith, q.room.1.0), c.target_of-to.ensures.small)) }
