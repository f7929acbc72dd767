-- `stored_if_asked`: all pass exactly where each is fulfilled. Assumes nothing.
use Rattle.std.proofs.Common.{rules, ◌≡◌, ◌<◌, ℕ, true, length, get_or, IsTrue, ◌↔◌}
use Rattle.std.proofs.iter.runs.Sources.{ranges}
use Rattle.checker.specs.WalkLaws.{fulfilled, all_fulfilled}
use Rattle.checker.proofs.walk.stored_if_asked.Goals as goal

pub returns : goal.returns
returns c =
    let e : IsTrue c.all.result ↔ ((i : ℕ) → i < length c.args.updates.now → fulfilled (get_or c.args.updates.now i 0) (get_or c.args.flags.now i 0) ≡ true) = search (rules, ranges) in
    all_fulfilled _ _ e
