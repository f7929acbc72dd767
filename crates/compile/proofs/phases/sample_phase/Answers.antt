-- `sample_phase`: what each call asks for, and how the phase ends. Assumes nothing.
use Prim.{search}
use Rattle.std.proofs.Common.{rules}
use mathlib.Core.Path.{◌∙◌}
use Rattle.std.proofs.lemmas.Result.{err_from_is_err_and}
use Rattle.compile.specs.PhaseLaws.{sample_plan, sample_link, sample_fit, sample_done, sample_locked}
use Rattle.compile.proofs.phases.sample_phase.Goals as goal

pub plan_sample-count-requires : goal.plan_sample-count-requires
plan_sample-count-requires c = sample_plan c.args.flow.now.sizes c.args.flow.now.nodes.now c.args.flow.now.updates.now c.args.flow.now.stores.now c.args.flow.now.output c.args.mask c.args.work.now c.args.steps.now c.args.instructions.now c.args.before c.requires.0 c.requires.1 c.zero_part.new.table c.zero_part.ensures

pub link-requires : goal.link-requires
link-requires c = rw c.frame_in-frame.ensures (sample_link c.args.flow.now.sizes c.args.flow.now.nodes.now c.args.flow.now.updates.now c.args.flow.now.stores.now c.args.flow.now.output c.args.mask c.args.work.now c.args.steps.now c.args.instructions.now c.args.before c.requires.0 c.requires.1 c.zero_part.new.table c.zero_part.ensures c.plan_sample-count.result c.plan_sample-count.new.work c.plan_sample-count.ensures.0 c.plan_sample-count.ensures.1)

pub allocate_phase-requires : goal.allocate_phase-requires
allocate_phase-requires c = rw (c.frame_in-frame.ensures, c.new_allocator.ensures) (sample_fit c.args.flow.now.sizes c.args.flow.now.nodes.now c.args.flow.now.updates.now c.args.flow.now.stores.now c.args.flow.now.output c.args.mask c.args.work.now c.args.steps.now c.args.instructions.now c.args.before c.requires.0 c.requires.1 c.zero_part.new.table c.zero_part.ensures c.plan_sample-count.result c.plan_sample-count.new.work c.plan_sample-count.ensures.0 c.plan_sample-count.ensures.1 c.link.new.work (rw c.frame_in-frame.ensures at c.link.ensures))

pub returns-in_err-allocate_phase-clause-locked : goal.returns-in_err-allocate_phase-clause-locked
returns-in_err-allocate_phase-clause-locked c = let p = err_from_is_err_and c.from_residual.result c.from_residual.ensures.1 in rw p.1 (p.2 ∙ c.in_err-allocate_phase.ensures.refusal, sample_locked c.args.flow.now.sizes c.args.flow.now.nodes.now c.args.flow.now.updates.now c.args.flow.now.stores.now c.args.flow.now.output c.args.mask c.args.work.now c.args.steps.now c.args.instructions.now c.args.before c.requires.0 c.requires.1 c.zero_part.new.table c.zero_part.ensures c.plan_sample-count.result c.plan_sample-count.new.work c.plan_sample-count.ensures.0 c.plan_sample-count.ensures.1 c.link.new.work (rw c.frame_in-frame.ensures at c.link.ensures) c.allocate_phase.new.self.work.now c.allocate_phase.new.self.steps.now c.allocate_phase.new.self.instructions.now c.allocate_phase.new.self.allocator (rw (c.frame_in-frame.ensures, c.new_allocator.ensures) at c.in_err-allocate_phase.ensures.done))

pub returns-clause-done : goal.returns-clause-done
returns-clause-done c = sample_done c.args.flow.now.sizes c.args.flow.now.nodes.now c.args.flow.now.updates.now c.args.flow.now.stores.now c.args.flow.now.output c.args.mask c.args.work.now c.args.steps.now c.args.instructions.now c.args.before c.requires.0 c.requires.1 c.zero_part.new.table c.zero_part.ensures c.plan_sample-count.result c.plan_sample-count.new.work c.plan_sample-count.ensures.0 c.plan_sample-count.ensures.1 c.link.new.work (rw c.frame_in-frame.ensures at c.link.ensures) c.allocate_phase.new.self.work.now c.allocate_phase.new.self.steps.now c.allocate_phase.new.self.instructions.now _ _ c.allocate_phase.new.self.allocator (rw (c.frame_in-frame.ensures, c.new_allocator.ensures) at c.in_ok-allocate_phase.ensures.done) (search rules) (search rules)
