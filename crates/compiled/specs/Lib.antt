-- Demand 3, last sentence: the compiler's list always passes the checker. Statements over the definitions of compile and check.
-- a walk over actions that tracks what each register and slot holds, a device of the proof: what the allocator emits goes through it
pub mod Marks
pub mod Tracking
pub mod Tracked
pub mod TrackedTasks
pub mod TrackedRun
pub mod TrackedPhases
-- how often each memory is stored
pub mod Stores
pub mod Writes
-- the walk's rules are the checker's: what `find` finds for a node is its class
pub mod Finds
pub mod Codes
pub mod Meanings
pub mod DraftWalks
-- what goes through the walk, as words in two tables, passes the checker: the theorems are proofs/Walked, proofs/DraftWalks, proofs/CompilePasses
pub mod Operations
pub mod Went
pub mod Stands
pub mod Passes
pub mod SamplePasses
pub mod ControlPasses
pub mod Left
pub mod CompilePasses
-- THE STATEMENTS, whose theorems stand in proofs/: what check accepts of what compile leaves
pub mod CompiledChecks
-- with `agree`: the code that a call of compile leaves
pub mod CompiledRuns
-- answer 14 exactly: in which state every usable register is locked
pub mod Locked
pub mod LockedRun
-- all of it as one promise of a call
pub mod Promised
-- the starred kernels of document 01
pub mod Starred
