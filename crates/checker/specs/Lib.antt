-- The step checker (document 01, "What the step checker passes", answer 19).
pub mod Walk
pub mod Check
-- 01's clauses, and that the walk passes just the lists that meet them
pub mod Passing
pub mod PassingLaws
-- the small kernels of 01
pub mod Kernels
-- where the work table keeps what is held, and what a store there does
pub mod Table
pub mod TableLaws
-- the class that a step moves, way by way
pub mod MoveLaws
-- one step, a phase, both phases, as the code walks them
pub mod WalkLaws
-- the listing as the code has it
pub mod Listing
-- no delay's length is read
pub mod BareLaws
-- the block through the map of nodes
pub mod Plan
pub mod PlanLaws
-- the call
pub mod CheckLaws
