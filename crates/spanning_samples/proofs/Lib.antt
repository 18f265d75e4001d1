-- The samples of graphs.
pub mod Orientations
pub mod TreesAlone
-- The edges of arrows that lead to the root
pub mod Slots
pub mod Growing
pub mod OneTree
pub mod DrawnTrees
-- Worked values
mod Vectors
