-- Document 01, module 4: the register allocator, from the tasks of a phase to its steps.
-- definitions
pub mod Actions
pub mod State
pub mod Allocator
-- nothing is refused with three usable registers
pub mod Outcomes
pub mod Pressure
-- the invariant, from the tables of registers and slots up to a whole run
pub mod Invariants
pub mod StateLaws
pub mod FetchLaws
pub mod ReadLaws
pub mod TaskLaws
pub mod RunLaws
pub mod Begin
-- the plan gives the allocator what it asks for
pub mod Scheduled
-- how many steps and slots; that no more registers are held than usable is in the invariant
pub mod Costs
pub mod SlotLaws
-- which indices and immediates
pub mod WordLaws
-- the Rust's own forms: definitions, and that they give the same: `reads` and `next`, the pairs of `max_by_key`, loops over every node
pub mod RustAllocator
pub mod RustReads
pub mod RustKeys
pub mod Canonical
pub mod RustStores
pub mod RustTwins
pub mod RustSame
-- how the tables hold it: exact words, which no public contract cites
pub mod Layout
pub mod Registers
pub mod Desk
pub mod DeskLaws
pub mod Ready
pub mod Tasks
pub mod Planned
pub mod TaskArms
pub mod TaskReady
pub mod Links
-- .. and what they hold: the state that is promised
pub mod ActionWords
pub mod Holds
pub mod HoldsLaws
pub mod HoldsTake
pub mod HoldsFetch
pub mod HoldsReads
pub mod HoldsArms
pub mod HoldsTasks
pub mod HoldsRun
pub mod HoldsBegin
pub mod HoldsLinks
pub mod HoldsRoom
pub mod HoldsPhase
pub mod HoldsSupply
pub mod HoldsSettings
pub mod HoldsNamed
