-- The laws that every other crate cites, by subject; each file says at its head what it is for. What Rattle's own libraries have (lib.ListN, lib.Seq,
-- borrow.Author, borrow.Rule.Slice.PartMut) is not said again.
-- tests and cases: facts of tests, `◌&◌`, `cond`
pub mod Tests
-- counting loops: `some`, `every`, `sum`, `turns`, what is left
pub mod Loops
-- regions of a table, and a part that was lent and comes back
pub mod Parts
-- stores and runs of stores, what holds of every word
pub mod Stores
-- zeroing and copying
pub mod Zeros
pub mod Lists
