-- `samples`: after t turns the machine and the output are those after t samples (`Playing` of specs/SampleLaws). Assumes nothing.
use mathlib.Core.Path.{refl}
use Rattle.memory.specs.LentLaws.{keeps_start, keeps_next}
use Rattle.machine.proofs.Keeps.{slots_start, slots_next}
use Rattle.step_run.specs.SampleLaws.{playing_start, playing_ready, playing_listed, playing_turn}
use Rattle.step_run.proofs.samples.samples.Goals as goal

pub loop-t-init : goal.loop-t-init
loop-t-init c = (slots_start, (keeps_start, playing_start _ _ _ c.requires.ready.lines.fit))

pub sample-next-requires-clause-ready : goal.sample-next-requires-clause-ready
sample-next-requires-clause-ready c = playing_ready c.loop-t.invariant.1.1 refl c.requires.ready

pub sample-next-requires-clause-listed : goal.sample-next-requires-clause-listed
sample-next-requires-clause-listed c = playing_listed c.loop-t.invariant.1.1 c.requires.listed

pub loop-t-preserved : goal.loop-t-preserved
loop-t-preserved c =
    let g = c.loop-t.invariant.1.1 in (
      slots_next c.loop-t.invariant.0 c.sample-next.ensures.same_slots,
      (keeps_next c.loop-t.invariant.1.0 c.sample-next.ensures.same_tables, playing_turn g _ _ (playing_listed g c.requires.listed) c.sample-next.ensures.done),
    )
