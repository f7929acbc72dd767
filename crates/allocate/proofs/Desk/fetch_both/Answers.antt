-- `fetch_both`: what holds all along still holds once the first is fetched. Assumes nothing.
use Rattle.std.proofs.Common.{ap, arith}
use Rattle.allocate.specs.Desk.{Choice}
use Rattle.allocate.specs.Ready.{kept_by, fetched_kept, room_after}
use Rattle.allocate.proofs.Desk.fetch_both.Goals as goal

pub fetch-second-requires : goal.fetch-second-requires
fetch-second-requires c =
    let q = c.requires in
    let k = kept_by _ _ _ _ _ (ap (λ (x : Choice). x.desk) c.fetch-first.ensures.done) (fetched_kept _ _ q.ready.0 _ _ _ _ q.ready.1.0.0) in
    record { ready = (k.0, (q.ready.1.0.1, q.ready.1.1)); room = room_after _ 2 2 _ _ q.room k.1; locks = omega arith }
