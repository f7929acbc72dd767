-- `operation`: what each call asks for, and that the first is to be had where the second is. Assumes nothing.
use Rattle.std.proofs.Common.{ap, ℕ, get_or, arith}
use Rattle.allocate.specs.Desk.{the_desk}
use Rattle.allocate.specs.TaskReady.{turn_below, turn_asks}
use Rattle.allocate.proofs.Desk.operation.Goals as goal

pub fetch_both-fetched-requires-clause-ready : goal.fetch_both-fetched-requires-clause-ready
fetch_both-fetched-requires-clause-ready c =
    let q = c.requires in
    let p = c.args.position in
    (q.0.0, (rw (c.reads_of-reads.ensures, c.task_at-at.ensures) (turn_below _ _ _ p (the_desk c.args.self.now) q.0.0 q.0.1 (omega arith)), (q.0.1.tasks p (omega arith)).nodes))

pub returns-in_err-first-clause-done : goal.returns-in_err-first-clause-done
returns-in_err-first-clause-done c =
    let q = c.requires in
    let h = c.fetch_both-fetched.ensures in
    let two = rw c.in_ok-second.was at h.registers.1 in
    let t = turn_asks _ _ _ c.args.position (the_desk c.args.self.now) q.0.0 q.0.1 (omega arith) q.1 _ (ap (λ (k : ℕ). get_or c.args.self.now.work.now k 0) c.task_at-at.ensures) _ c.reads_of-reads.ensures _ (rw c.in_ok-second.was at h.done) (λ e. omega (arith, e, two)) in
    let one = rw c.in_err-first.was at t.1.registers.0 in
    absurd (omega (arith, one))

pub perform-requires : goal.perform-requires
perform-requires c =
    let q = c.requires in
    let h = c.fetch_both-fetched.ensures in
    let two = rw c.in_ok-second.was at h.registers.1 in
    let t = turn_asks _ _ _ c.args.position (the_desk c.args.self.now) q.0.0 q.0.1 (omega arith) q.1 _ (ap (λ (k : ℕ). get_or c.args.self.now.work.now k 0) c.task_at-at.ensures) _ c.reads_of-reads.ensures _ (rw (c.in_ok-first.was, c.in_ok-second.was) at h.done) (λ e. omega (arith, e, two)) in
    record { ready = t.0; asks = t.1 }
