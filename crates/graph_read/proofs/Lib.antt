-- The grammar: the line of an edge, the lines that a reader took, its answer, and what has no refusal
pub mod EdgeLines
mod FrontNumbers
pub mod TakenLines
pub mod AnsweredText
pub mod GrammarLaw
-- The edges at a vertex, as the edges of a graph come one by one
pub mod Numbering
pub mod IncidenceLemmas
pub mod IncidenceRows
pub mod FilledRanges
pub mod KnownEdges
mod PickedEdges
-- Paths, and that a search comes just to the vertices that they join to its root
pub mod JoinedPaths
pub mod VisitedEdges
pub mod ReachedVertices
-- Grids: their edges by places, their paths, the neighbours of a vertex
pub mod GridPlaces
pub mod GridPaths
mod NumbersInARow
pub mod GridIncidence
mod GridDegrees
pub mod GridGraphs
-- Worked values
mod Vectors
