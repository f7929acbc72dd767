-- `step`: each arm leaves the machine that the definition gives for its step (specs/StepArms). Assumes nothing.
use mathlib.Core.Path.{refl}
use Rattle.machine.proofs.StepArms.{decoded, allowed, load_inside, compute_inside, compute_words, stored_inside, reload_inside, state_inside, delay_inside, arm_load, arm_compute, arm_stored, arm_reload, arm_state, arm_delay, arm_output}
use Rattle.machine.proofs.steps.step.Goals as goal

pub loaded-value-requires-clause-inside : goal.loaded-value-requires-clause-inside
loaded-value-requires-clause-inside c = load_inside c.requires.may (decoded c.requires.may c.from_words_unchecked.ensures c.in-Load.is)

pub compute-requires-clause-inside : goal.compute-requires-clause-inside
compute-requires-clause-inside c = compute_inside c.requires.may (decoded c.requires.may c.from_words_unchecked.ensures c.in-Compute.is) c.requires.ready.code

pub compute-requires-clause-formed : goal.compute-requires-clause-formed
compute-requires-clause-formed c = compute_words c.requires.may (decoded c.requires.may c.from_words_unchecked.ensures c.in-Compute.is)

pub read-value-requires-clause-inside : goal.read-value-requires-clause-inside
read-value-requires-clause-inside c = reload_inside c.requires.may (decoded c.requires.may c.from_words_unchecked.ensures c.in-Reload.is)

pub bounds-memories-state : goal.bounds-memories-state
bounds-memories-state c = state_inside c.requires.may (decoded c.requires.may c.from_words_unchecked.ensures c.in-StoreState.is) refl

pub store_delay-requires-clause-inside : goal.store_delay-requires-clause-inside
store_delay-requires-clause-inside c = delay_inside c.requires.may (decoded c.requires.may c.from_words_unchecked.ensures c.in-StoreDelay.is) refl

pub store-requires-clause-inside : goal.store-requires-clause-inside
store-requires-clause-inside c = stored_inside c.requires.may c.from_words_unchecked.ensures c.in-Spill.is

pub returns-in-Load-clause-done : goal.returns-in-Load-clause-done
returns-in-Load-clause-done c = λ n. arm_load _ _ _ _ _ _ _ _ n _ _ _ _ (decoded c.requires.may c.from_words_unchecked.ensures c.in-Load.is) c.loaded-value.ensures c.put.ensures

pub returns-in-Compute-clause-done : goal.returns-in-Compute-clause-done
returns-in-Compute-clause-done c = λ n. arm_compute _ _ _ _ _ _ _ _ n _ _ (decoded c.requires.may c.from_words_unchecked.ensures c.in-Compute.is) c.compute.ensures

pub returns-in-Reload-clause-done : goal.returns-in-Reload-clause-done
returns-in-Reload-clause-done c =
    let w = decoded c.requires.may c.from_words_unchecked.ensures c.in-Reload.is in
    λ n. arm_reload _ _ _ _ _ _ _ _ n c.args.phase _ _ _ _ w (allowed c.requires.may w) c.read-value.ensures c.put-in-Reload.ensures

pub returns-in-StoreState-clause-done : goal.returns-in-StoreState-clause-done
returns-in-StoreState-clause-done c = λ n. arm_state _ _ _ _ _ _ _ _ n _ _ _ _ (decoded c.requires.may c.from_words_unchecked.ensures c.in-StoreState.is) refl c.read.ensures

pub returns-in-StoreDelay-clause-done : goal.returns-in-StoreDelay-clause-done
returns-in-StoreDelay-clause-done c =
    λ n. arm_delay _ _ _ _ _ _ _ _ n _ _ _ _ _ (decoded c.requires.may c.from_words_unchecked.ensures c.in-StoreDelay.is) refl c.read-value-in-StoreDelay.ensures c.store_delay.ensures.stored

pub returns-in-StoreOutput-clause-done : goal.returns-in-StoreOutput-clause-done
returns-in-StoreOutput-clause-done c = λ n. arm_output _ _ _ _ _ _ _ _ n _ _ (decoded c.requires.may c.from_words_unchecked.ensures c.in-StoreOutput.is) c.read-in-StoreOutput.ensures

pub returns-in-Spill-clause-done : goal.returns-in-Spill-clause-done
returns-in-Spill-clause-done c = λ n. arm_stored _ _ _ _ _ _ _ _ n c.requires.may _ _ _ _ _ _ c.from_words_unchecked.ensures c.in-Spill.is c.read-in-Spill.ensures c.store.ensures.done
