-- The order of labels, and the table of the last nodes.
pub mod BelowLemmas
pub mod Choosing
pub mod Latests
-- How a tree grows, record by record
pub mod Joining
pub mod Turns
-- Children, by their labels, and the preorder
pub mod ChildRows
pub mod LabelOrder
pub mod Attaching
pub mod Preorders
pub mod FoundChildren
-- Laws: vertices of one depth, labels, one tree
pub mod VerticesLemmas
pub mod Labels
pub mod OneTree
-- Which record used an entry
pub mod Counting
pub mod OneUse
-- Exchanges. ExchangedVertices: the vertices of a log with two neighbours exchanged. ExchangedTrees: no record's tree
-- changes. SameTrees: an entry has the same tree in all runs to ends.
mod ExchangedVertices
mod ExchangedTrees
pub mod SameTrees
-- Worked values
mod Vectors
