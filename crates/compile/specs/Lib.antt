-- Document 01, modules 3 and 4 together: from a block to a kernel's words.
-- definitions: both phases, their words, compile, the call
pub mod Draft
pub mod Words
pub mod Compile
pub mod Call
-- as the code has it: how each phase ends, the expanded block through the map, zeros behind the kernel
pub mod Phases
pub mod Expanded
-- with three usable registers there is a kernel: `compile_gives`, `call_accepts`
pub mod Gives
-- document 01's bounds: `compile_bounds`, `counts_fit`, `call_lengths`; every word is below 2^32: `compile_words`
pub mod PhasesFit
pub mod Bounds
-- what the allocator asks for, from what the plan leaves
pub mod PhaseTables
-- each way out of the code
pub mod PhaseLaws
pub mod CallLaws
pub mod SmallWords
-- the Rust's own forms give the same kernel: `compile_rust_lem`, `block_rust`
pub mod RustCompile
-- document 01's small kernels: `starred_kernels`; further kernels as the Rust gives them
pub mod Kernels
pub mod Examples
