-- `perform`: what each call asks for still holds. Assumes nothing.
use Rattle.allocate.specs.Desk.{the_desk}
use Rattle.allocate.specs.TaskReady.{advanced_then, arm_then}
use Rattle.allocate.proofs.Desk.perform.Goals as goal

pub arm-requires : goal.arm-requires
arm-requires c =
    let q = c.requires in
    let o = c.args.operands in
    let t = advanced_then _ c.args.nodes.now (the_desk c.args.self.now) q.ready.0 _ q.asks.below o.first o.second c.args.task c.args.position q.asks.registers.0 q.asks.registers.1 q.asks.inside q.asks.homes q.asks.keeps q.ready.1 _ c.advance.ensures in
    record { ready = (t.0, (q.asks.below, q.asks.inside)); one_bound = (q.asks.registers, ((q.ready.1, q.asks.wide), t.1)) }

pub release_both-requires : goal.release_both-requires
release_both-requires c =
    let q = c.requires in
    let o = c.args.operands in
    (arm_then _ c.args.nodes.now (the_desk c.args.self.now) q.ready.0 _ q.asks.below o.first o.second c.args.task c.args.position q.asks.registers.0 q.asks.registers.1 q.asks.inside q.asks.homes q.asks.keeps _ c.advance.ensures _ c.in_ok-register.ensures.done, q.asks.below)
