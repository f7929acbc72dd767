-- What the checker passes never reads a register or a slot that is not filled: `never_unfilled`.
pub mod Filled
