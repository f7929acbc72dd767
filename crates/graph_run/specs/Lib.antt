-- The graph run of document 01's module 6.
pub mod Sample
pub mod Run
pub mod Ready
pub mod SampleLaws
pub mod RunLaws
pub mod Plan
pub mod PlanLaws
pub mod CallLaws
