-- Document 01, module 2: the expansion of a block into primitive nodes.
pub mod Nodes
pub mod Macros
pub mod Expansion
pub mod Graph
pub mod Words
pub mod Lengths
pub mod Good
pub mod Plain
pub mod Network
pub mod Writes
pub mod GraphLaws
pub mod Map
pub mod MapLaws
pub mod Updates
pub mod InPlace
pub mod Calls
pub mod Examples
