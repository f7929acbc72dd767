-- `run_steps`: after i turns the machine is the one after i steps, its tables as long as they were (`Going` of specs/StepLaws). Assumes nothing.
use Rattle.memory.specs.LentLaws.{keeps_start, keeps_next}
use Rattle.machine.proofs.Keeps.{slots_start, slots_next}
use Rattle.machine.proofs.StepLaws.{going_start, going_may, going_turn}
use Rattle.machine.proofs.steps.run_steps.Goals as goal

pub loop-i-init : goal.loop-i-init
loop-i-init c = (slots_start, (keeps_start, going_start _ _ _ _ _ c.requires.ready.lines.fit))

pub step-next-requires-clause-may : goal.step-next-requires-clause-may
step-next-requires-clause-may c = going_may c.loop-i.invariant.1.1 c.requires.listed c.loop-i-test.true

pub loop-i-preserved : goal.loop-i-preserved
loop-i-preserved c =
    let g = c.loop-i.invariant.1.1 in (
      slots_next c.loop-i.invariant.0 c.step-next.ensures.same_slots,
      (
        keeps_next c.loop-i.invariant.1.0 c.step-next.ensures.same_tables,
        going_turn g _ (going_may g c.requires.listed c.loop-i-test.true) c.step-next.ensures.done,
      ),
    )
