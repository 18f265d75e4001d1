pub mod SoundValues
pub mod Literals
pub mod Satisfied
pub mod Orienting
pub mod StuckNumbers
pub mod FalseClauses
pub mod StuckSinks
pub mod ShownEnds
mod Vectors
pub mod Vertices
pub mod TreeArrows
pub mod Leading
pub mod Spanning
pub mod StuckCycles
pub mod SoundSlots
pub mod ShownTrees
mod TreeVectors
