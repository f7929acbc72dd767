-- The house file of document 01: 512-byte blocks that hold an effect block or a rendering.
-- bytes and words
pub mod Bytes
-- the blocks of a file that is read, and its answers 20 and 21
pub mod Frame
-- the blocks of a file that is written
pub mod File
-- what the payload says
pub mod Payload
-- the four calls
pub mod Read
pub mod Write
-- the tables that a block is read into
pub mod Lent
-- theorems: reading back gives the same, no other bytes do, kinds are never mixed
pub mod RenderingFiles
pub mod BlockFiles
-- the numbers fix the results
pub mod Tells
-- kernel K
pub mod Kernels
-- laws that the theorems and the proofs of the code cite
pub mod Generic
pub mod BytesLaws
pub mod FrameLaws
pub mod PayloadLaws
pub mod Framed
pub mod ReadLaws
pub mod Gather
pub mod FileLaws
pub mod WriteLaws
pub mod ReadBack
pub mod Canonical
