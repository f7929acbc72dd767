-- `push_chain`: what is pushed, and what the chain still has, are the writes. Assumes nothing.
use mathlib.Core.Path.{refl}
use native.Mathlib.Omega.{arith}
use lib.ListN.{length-set}
use Rattle.plan.specs.ChainLaws.{head_low, pushing_start, pushing_room, pushing_next, pushing_less, pushing_end}
use Rattle.plan.proofs.schedule.push_chain.Goals as goal

pub loop-word-init : goal.loop-word-init
loop-word-init c = rw c.heads.ensures (refl, head_low _ _ _ c.requires.1 c.requires.2, λ chained below. pushing_start _ _ _ _ chained below)

pub overflow_add-work-in-loop-word : goal.overflow_add-work-in-loop-word
overflow_add-work-in-loop-word c = omega (arith, pushing_room _ _ _ _ _ _ _ (c.loop-word.invariant.2 c.requires.1 c.requires.2) c.loop-word-test.true c.requires.3, c.requires.0.small, c.requires.0.states, c.requires.0.delays, c.requires.0.room, c.loop-word.invariant.0, c.tasks.ensures)

pub offset_bounds-work-tasks : goal.offset_bounds-work-tasks
offset_bounds-work-tasks c = omega (arith, pushing_room _ _ _ _ _ _ _ (c.loop-word.invariant.2 c.requires.1 c.requires.2) c.loop-word-test.true c.requires.3, c.requires.0.small, c.requires.0.states, c.requires.0.delays, c.requires.0.room, c.loop-word.invariant.0, c.tasks.ensures)

pub bounds-work-tasks : goal.bounds-work-tasks
bounds-work-tasks c = omega (arith, pushing_room _ _ _ _ _ _ _ (c.loop-word.invariant.2 c.requires.1 c.requires.2) c.loop-word-test.true c.requires.3, c.requires.0.small, c.requires.0.states, c.requires.0.delays, c.requires.0.room, c.loop-word.invariant.0, c.tasks.ensures)

pub overflow_add-total : goal.overflow_add-total
overflow_add-total c = omega (arith, pushing_room _ _ _ _ _ _ _ (c.loop-word.invariant.2 c.requires.1 c.requires.2) c.loop-word-test.true c.requires.3, c.requires.0.small, c.requires.0.states, c.requires.0.delays, c.requires.0.room, c.loop-word.invariant.0, c.tasks.ensures)

pub bounds-work-chain : goal.bounds-work-chain
bounds-work-chain c = simp length-set (omega (arith, c.requires.0.small, c.requires.0.states, c.requires.0.delays, c.requires.0.room, c.loop-word.invariant.0, c.loop-word.invariant.1, c.loop-word-test.true, c.chain.ensures))

pub loop-word-smaller : goal.loop-word-smaller
loop-word-smaller c = rw (c.tasks.ensures, c.chain.ensures) (pushing_less _ _ _ _ _ _ _ (c.loop-word.invariant.2 c.requires.1 c.requires.2) c.loop-word-test.true c.requires.3 c.requires.1)

pub loop-word-preserved : goal.loop-word-preserved
loop-word-preserved c = rw (c.tasks.ensures, c.chain.ensures) (simp length-set c.loop-word.invariant.0, (pushing_next _ _ _ _ _ _ _ (c.loop-word.invariant.2 c.requires.1 c.requires.2) c.loop-word-test.true c.requires.3 c.requires.1).low, λ chained below. pushing_next _ _ _ _ _ _ _ (c.loop-word.invariant.2 c.requires.1 c.requires.2) c.loop-word-test.true c.requires.3 c.requires.1)

pub returns : goal.returns
returns c = pushing_end _ _ _ _ _ _ _ (c.loop-word.invariant.2 c.requires.1 c.requires.2) (omega (arith, c.loop-word-test.false))
