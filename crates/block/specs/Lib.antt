-- A block on words, and what is valid: document 01, "What crosses the boundary" and answers 1 to 12.
pub mod Block
pub mod Kinds
pub mod KindLaws
pub mod Limits
pub mod Validation
pub mod Valid
pub mod ValidExact
pub mod Parts
