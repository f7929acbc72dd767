-- The step run of document 01's module 6.
pub mod Budget
pub mod Run
-- the budget's n as a formula
pub mod BudgetLaws
-- what the functions of a call's samples require
pub mod Ready
-- the structs that samples are handed
pub mod Setup
-- laws of samples, and the steps spent
pub mod SampleLaws
-- the call
pub mod CallLaws
