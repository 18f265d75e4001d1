mod JoinedVertices
pub mod TreeRows
mod HeadNumbers
mod OneWeights
mod NeighbourRows
mod Vectors
