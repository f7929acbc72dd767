-- How answers cross to C.
pub mod Crossing
pub mod Runs
pub mod CheckedRuns
pub mod Compiles
pub mod Files
