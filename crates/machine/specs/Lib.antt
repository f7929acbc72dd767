-- The machine that steps run on (document 01, module 6).
pub mod Machine
-- one register set
pub mod Registers
-- what the functions of a phase require
pub mod Ready
-- the structs that a run hands down
pub mod Tables
-- a run of steps under way
pub mod StepLaws
