-- Document 01, module 3: what is hoisted, what each phase reaches, and the tasks of each phase in order.
-- definitions
pub mod Lists
pub mod Nodes
pub mod Hoist
pub mod Origins
pub mod Schedule
pub mod Flow
-- where the work table holds it
pub mod Layout
-- laws of tests and lists
pub mod TestLaws
pub mod ListLaws
pub mod Regions
-- laws of origins, of reachability, and what a good flow plans
pub mod OriginLaws
pub mod Reached
pub mod Planned
-- a good graph's flow is good
pub mod FlowLaws
-- the words of nodes
pub mod Words
-- laws that the code cites, by its files
pub mod HoistLaws
pub mod RootLaws
pub mod ControlLaws
pub mod SourceLaws
pub mod Source
pub mod SampleLaws
pub mod Chains
pub mod LastLaws
pub mod ChainLaws
-- the control phase's share of the plan, in the table
pub mod ControlShare
-- what the plan leaves in the table for each phase
pub mod Shares
pub mod FirstLaws
-- the sample schedule by words is the plan's
pub mod ReadOrder
pub mod ChainOrder
pub mod OrderLaws
-- the sample phase's share, as its functions leave it
pub mod SampleTable
-- the Rust's own forms: definitions, and that they give the same plan
pub mod RustPlan
pub mod Worklist
pub mod Ordinals
pub mod PlanSame
