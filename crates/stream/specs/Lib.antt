-- The house file of document 01, block by block: what is kept of the blocks seen so far, and what is written of one.
-- what is kept, and how a block more changes it
pub mod Stream
-- theorems: a block more, the answer at the end, a sample's place
pub mod StreamLaws
-- theorem: the blocks that are written are the file
pub mod Written
-- laws that the proofs of the code cite
pub mod Ways
-- two renderings compared, and that a pair of blocks after the other tells the same
pub mod Compare
pub mod CompareLaws
