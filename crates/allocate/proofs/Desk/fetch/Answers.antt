-- `fetch`: there is room for the load. Assumes nothing.
use Rattle.allocate.specs.Ready.{taken_then}
use Rattle.allocate.proofs.Desk.fetch.Goals as goal

pub load-requires : goal.load-requires
load-requires c =
    let q = c.requires in
    let t = taken_then _ _ q.ready.0 _ _ _ q.ready.1.0 q.room _ c.in_ok-register.ensures.done in
    record { wide = (t.0, (q.ready.1.0, (q.ready.1.1, t.1.1))); room = t.1.0 }
