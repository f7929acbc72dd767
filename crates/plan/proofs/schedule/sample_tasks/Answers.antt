-- `sample_tasks`: before turn i the tasks of the first i nodes stand in the region. Assumes nothing.
use mathlib.Core.Path.{◌∙◌}
use native.Mathlib.Omega.{arith}
use Rattle.plan.specs.Layout.{room_in}
use Rattle.plan.specs.ChainLaws.{first_room, pushed_start, pushed_room, pushed_ready, pushed_next, pushed_end}
use Rattle.plan.proofs.schedule.sample_tasks.Goals as goal

pub push_chain-tasks-requires : goal.push_chain-tasks-requires
push_chain-tasks-requires c = (room_in _ _ _ c.requires.0, c.requires.1, omega arith, first_room _ _ _ c.requires.2)

pub push_node-tasks-requires : goal.push_node-tasks-requires
push_node-tasks-requires c = let r = pushed_ready _ _ _ c.requires.2 _ _ _ (c.loop-i.invariant.1 c.args.work.now c.requires.2 (pushed_start _ _ _ c.requires.2 _ _ c.push_chain-tasks.ensures)) c.requires.1 c.loop-i-test.true in (rw (c.loop-i.invariant.0 ∙ c.push_chain-tasks.auto.work) c.requires.0, r.0, c.loop-i-test.true, r.1)

pub loop-i-preserved : goal.loop-i-preserved
loop-i-preserved c = (c.push_node-tasks.auto.work ∙ c.loop-i.invariant.0, λ table fits start. pushed_next _ _ table fits _ _ _ (c.loop-i.invariant.1 table fits start) _ _ c.loop-i-test.true c.push_node-tasks.ensures)

pub overflow_add-work-3 : goal.overflow_add-work-3
overflow_add-work-3 c = omega (arith, pushed_room _ _ _ c.requires.2 _ _ _ (c.loop-i.invariant.1 c.args.work.now c.requires.2 (pushed_start _ _ _ c.requires.2 _ _ c.push_chain-tasks.ensures)) (omega arith), c.requires.0.small, c.requires.0.states, c.requires.0.delays, c.requires.0.room, (c.loop-i.invariant.0 ∙ c.push_chain-tasks.auto.work), c.tasks.ensures)

pub offset_bounds-work-tasks : goal.offset_bounds-work-tasks
offset_bounds-work-tasks c = omega (arith, pushed_room _ _ _ c.requires.2 _ _ _ (c.loop-i.invariant.1 c.args.work.now c.requires.2 (pushed_start _ _ _ c.requires.2 _ _ c.push_chain-tasks.ensures)) (omega arith), c.requires.0.small, c.requires.0.states, c.requires.0.delays, c.requires.0.room, (c.loop-i.invariant.0 ∙ c.push_chain-tasks.auto.work), c.tasks.ensures)

pub bounds-work-tasks : goal.bounds-work-tasks
bounds-work-tasks c = omega (arith, pushed_room _ _ _ c.requires.2 _ _ _ (c.loop-i.invariant.1 c.args.work.now c.requires.2 (pushed_start _ _ _ c.requires.2 _ _ c.push_chain-tasks.ensures)) (omega arith), c.requires.0.small, c.requires.0.states, c.requires.0.delays, c.requires.0.room, (c.loop-i.invariant.0 ∙ c.push_chain-tasks.auto.work), c.tasks.ensures)

pub overflow_add-result : goal.overflow_add-result
overflow_add-result c = omega (arith, pushed_room _ _ _ c.requires.2 _ _ _ (c.loop-i.invariant.1 c.args.work.now c.requires.2 (pushed_start _ _ _ c.requires.2 _ _ c.push_chain-tasks.ensures)) (omega arith), c.requires.0.small, c.requires.0.states, c.requires.0.delays, c.requires.0.room, (c.loop-i.invariant.0 ∙ c.push_chain-tasks.auto.work), c.tasks.ensures)

pub returns : goal.returns
returns c = rw c.tasks.ensures (pushed_end _ _ _ c.requires.2 _ _ _ (c.loop-i.invariant.1 c.args.work.now c.requires.2 (pushed_start _ _ _ c.requires.2 _ _ c.push_chain-tasks.ensures)) (omega arith))
