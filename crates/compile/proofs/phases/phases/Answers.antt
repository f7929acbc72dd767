-- `phases`: either phase refused, and both done. Assumes nothing.
use Rattle.std.proofs.lemmas.Result.{err_from_is_err_and}
use Rattle.plan.specs.ControlShare.{flow_in}
use Rattle.compile.specs.PhaseLaws.{phases_locked, counted_ends, phases_done}
use Rattle.compile.proofs.phases.phases.Goals as goal

pub returns-in_err-before : goal.returns-in_err-before
returns-in_err-before c = let p = err_from_is_err_and c.from_residual.result c.from_residual.ensures.1 in rw (p.1, p.2, c.in_err-before.ensures.locked.0) (phases_locked (flow_in c.args.flow.now.sizes c.args.flow.now.nodes.now c.args.flow.now.updates.now c.args.flow.now.stores.now c.args.flow.now.output) c.args.mask c.args.steps.now c.args.instructions.now _ _ c.in_err-before.ensures.locked.1)

pub sample_phase-requires : goal.sample_phase-requires
sample_phase-requires c = (rw (c.control_phase.auto.work, c.control_phase.auto.steps, c.control_phase.auto.instructions) c.requires.lent, record { table = c.args.steps.now; program = c.args.instructions.now; done = c.in_ok-before.ensures.done })

pub returns-in_err-after : goal.returns-in_err-after
returns-in_err-after c = let p = err_from_is_err_and c.from_residual-in_err-after.result c.from_residual-in_err-after.ensures.1 in rw (p.1, p.2, c.in_err-after.ensures.locked.0) (phases_locked (flow_in c.args.flow.now.sizes c.args.flow.now.nodes.now c.args.flow.now.updates.now c.args.flow.now.stores.now c.args.flow.now.output) c.args.mask c.args.steps.now c.args.instructions.now _ _ c.in_err-after.ensures.locked.1)

pub counted-made-requires : goal.counted-made-requires
counted-made-requires c = counted_ends c.args.flow.now.sizes c.args.flow.now.nodes.now c.args.flow.now.updates.now c.args.flow.now.stores.now c.args.flow.now.output c.args.mask _ _ _ c.requires.lent c.args.steps.now c.args.instructions.now c.in_ok-before.before c.in_ok-after.after c.sample_phase.new.steps c.sample_phase.new.instructions (c.in_ok-after.ensures.done c.args.steps.now c.args.instructions.now c.in_ok-before.ensures.done)

pub returns : goal.returns
returns c = phases_done c.args.flow.now.sizes c.args.flow.now.nodes.now c.args.flow.now.updates.now c.args.flow.now.stores.now c.args.flow.now.output c.args.mask _ _ _ c.requires.lent c.args.steps.now c.args.instructions.now c.in_ok-before.before c.in_ok-after.after c.sample_phase.new.steps c.sample_phase.new.instructions (c.in_ok-after.ensures.done c.args.steps.now c.args.instructions.now c.in_ok-before.ensures.done) c.counted-made.result c.counted-made.ensures
