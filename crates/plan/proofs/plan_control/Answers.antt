-- `plan_control`: the regions that each function leaves are what the next one asks for. Assumes nothing.
use mathlib.Core.Path.{◌∙◌}
use native.Mathlib.Omega.{arith}
use Rattle.plan.specs.ControlShare.{control_share}
use Rattle.plan.proofs.plan_control.Goals as goal

pub sweep-requires : goal.sweep-requires
sweep-requires c = (rw (c.mark_roots.auto.work ∙ c.invariance.auto.work) c.requires.0, omega arith, omega arith)

pub sweep-requires-2 : goal.sweep-requires-2
sweep-requires-2 c = (rw (c.number_slots-slots.auto.work ∙ (c.sweep.auto.work ∙ (c.mark_roots.auto.work ∙ c.invariance.auto.work))) c.requires.0, omega arith, omega arith)

pub control_tasks-tasks-requires : goal.control_tasks-tasks-requires
control_tasks-tasks-requires c = rw (c.sweep-2.auto.work ∙ (c.number_slots-slots.auto.work ∙ (c.sweep.auto.work ∙ (c.mark_roots.auto.work ∙ c.invariance.auto.work)))) c.requires.0

pub returns : goal.returns
returns c = control_share c.args.flow.now.sizes c.args.flow.now.nodes.now c.args.flow.now.updates.now c.args.flow.now.stores.now c.args.flow.now.output c.args.work.now c.invariance.new.work c.mark_roots.new.work c.sweep.new.work c.number_slots-slots.new.work c.sweep-2.new.work c.control_tasks-tasks.new.work c.number_slots-slots.result c.control_tasks-tasks.result c.requires.0 c.requires.1 c.requires.2 c.requires.3 c.requires.4 c.invariance.ensures c.mark_roots.ensures (rw c.needed.ensures at c.sweep.ensures) c.number_slots-slots.ensures (rw c.reached.ensures at c.sweep-2.ensures) c.control_tasks-tasks.ensures
