-- The classes of expanded nodes (document 01, "What the step checker passes").
pub mod Classes
-- what a class is, and what `find` finds
pub mod ClassLaws
-- where walks begin
pub mod Start
-- a tree on the bits of keys, in a table of words
pub mod Tree
-- where keys belong in the tree
pub mod Digits
-- the index cell by cell: the classes and a tree of them in one table
pub mod Cells
-- the index as the code and its callers speak of it
pub mod Index
-- how long a walk is
pub mod Depth
-- 01's sentence of one class as a relation
pub mod OneClass
