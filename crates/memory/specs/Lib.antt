-- Parameter values, states, delay lines: their sizes (answer 16), set (17, 18), reset, and a delay line's read and store.
pub mod Lines
pub mod Signals
pub mod Sizes
pub mod Calls
pub mod Fit
pub mod LineLaws
pub mod SizeLaws
pub mod CallLaws
pub mod Lent
pub mod LentLaws
