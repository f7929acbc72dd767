-- THE THEOREMS whose statements stand in specs/, and what they rest on there.
-- how often each memory is stored, and what is left to store
pub mod Writes
pub mod Left
-- what goes through the walk passes the checker: `compile_passes`, `compile_meets`
pub mod Walked
pub mod DraftWalks
pub mod CompilePasses
-- `compiled_checks`, `valid_checks`
pub mod CompiledChecks
-- with `agree`: `compiled_runs`, `compiled_calls`
pub mod CompiledRuns
-- answer 14 exactly: `take_locked`, `run_locked`, `locked_exactly`, `call_locked`; with three usable registers never: `three_never_locked`
pub mod Locked
pub mod LockedRun
pub mod CallLocked
-- all of it as one promise of a call: `promised`
pub mod Promised
