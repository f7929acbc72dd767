-- `control_phase`: what each call asks for, and how the phase ends. Assumes nothing.
use mathlib.Core.Path.{◌≡◌, ◌∙◌}
use lib.ListN.{length}
use Prim.{search}
use Rattle.std.proofs.Common.{rules}
use Rattle.std.proofs.lemmas.Result.{err_from_is_err_and}
use Rattle.compile.specs.PhaseLaws.{control_plan, control_link, control_fit, control_done, control_locked}
use Rattle.compile.proofs.phases.control_phase.Goals as goal

pub plan_control-hoisted-requires : goal.plan_control-hoisted-requires
plan_control-hoisted-requires c = control_plan c.args.flow.now.sizes c.args.flow.now.nodes.now c.args.flow.now.updates.now c.args.flow.now.stores.now c.args.flow.now.output c.args.mask c.args.work.now c.args.steps.now c.args.instructions.now c.requires

pub link-requires : goal.link-requires
link-requires c = rw c.frame_in-frame.ensures (control_link c.args.flow.now.sizes c.args.flow.now.nodes.now c.args.flow.now.updates.now c.args.flow.now.stores.now c.args.flow.now.output c.args.mask c.args.work.now c.args.steps.now c.args.instructions.now c.requires c.plan_control-hoisted.result.slots c.plan_control-hoisted.result.tasks c.plan_control-hoisted.new.work c.canonical.new.work (c.canonical.auto.work ∙ c.plan_control-hoisted.auto.work) c.plan_control-hoisted.ensures.0 c.plan_control-hoisted.ensures.1 c.canonical.ensures)

pub allocate_phase-requires : goal.allocate_phase-requires
allocate_phase-requires c = rw (c.frame_in-frame.ensures, c.new_allocator.ensures) (control_fit c.args.flow.now.sizes c.args.flow.now.nodes.now c.args.flow.now.updates.now c.args.flow.now.stores.now c.args.flow.now.output c.args.mask c.args.work.now c.args.steps.now c.args.instructions.now c.requires c.plan_control-hoisted.result.slots c.plan_control-hoisted.result.tasks c.plan_control-hoisted.new.work c.canonical.new.work (c.canonical.auto.work ∙ c.plan_control-hoisted.auto.work) c.plan_control-hoisted.ensures.0 c.plan_control-hoisted.ensures.1 c.canonical.ensures c.link.new.work (rw c.frame_in-frame.ensures at c.link.ensures))

pub returns-in_err-allocate_phase-clause-locked : goal.returns-in_err-allocate_phase-clause-locked
returns-in_err-allocate_phase-clause-locked c = let p = err_from_is_err_and c.from_residual.result c.from_residual.ensures.1 in let same : length c.allocate_phase.new.self.work.now ≡ length c.args.work.now = search rules in rw p.1 (p.2 ∙ c.in_err-allocate_phase.ensures.refusal, control_locked c.args.flow.now.sizes c.args.flow.now.nodes.now c.args.flow.now.updates.now c.args.flow.now.stores.now c.args.flow.now.output c.args.mask c.args.work.now c.args.steps.now c.args.instructions.now c.requires c.plan_control-hoisted.result.slots c.plan_control-hoisted.result.tasks c.plan_control-hoisted.new.work c.canonical.new.work (c.canonical.auto.work ∙ c.plan_control-hoisted.auto.work) c.plan_control-hoisted.ensures.0 c.plan_control-hoisted.ensures.1 c.canonical.ensures c.link.new.work (rw c.frame_in-frame.ensures at c.link.ensures) c.allocate_phase.new.self.work.now c.allocate_phase.new.self.steps.now c.allocate_phase.new.self.instructions.now c.allocate_phase.new.self.allocator (rw (c.frame_in-frame.ensures, c.new_allocator.ensures) at c.in_err-allocate_phase.ensures.done) same)

pub returns-clause-done : goal.returns-clause-done
returns-clause-done c = let same : length c.allocate_phase.new.self.work.now ≡ length c.args.work.now = search rules in control_done c.args.flow.now.sizes c.args.flow.now.nodes.now c.args.flow.now.updates.now c.args.flow.now.stores.now c.args.flow.now.output c.args.mask c.args.work.now c.args.steps.now c.args.instructions.now c.requires c.plan_control-hoisted.result.slots c.plan_control-hoisted.result.tasks c.plan_control-hoisted.new.work c.canonical.new.work (c.canonical.auto.work ∙ c.plan_control-hoisted.auto.work) c.plan_control-hoisted.ensures.0 c.plan_control-hoisted.ensures.1 c.canonical.ensures c.link.new.work (rw c.frame_in-frame.ensures at c.link.ensures) c.allocate_phase.new.self.work.now c.allocate_phase.new.self.steps.now c.allocate_phase.new.self.instructions.now _ _ _ c.allocate_phase.new.self.allocator (rw (c.frame_in-frame.ensures, c.new_allocator.ensures) at c.in_ok-allocate_phase.ensures.done) same (search rules) (search rules) (search rules)
