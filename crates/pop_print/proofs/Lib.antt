-- The text of an end. OutputLemmas: its lines, one after another. EndLemmas: each event that occurs can be printed.
pub mod OutputLemmas
pub mod EndLemmas
-- Stretches: ends that are printed each for itself, one behind another.
mod Stretches
-- The words of a line. NamedCubes: the names of a cube's variables. TreePlaces: the vertices of a tree's variables.
-- SignedLiterals: the literal of a variable by its value.
mod NamedCubes
pub mod TreePlaces
pub mod SignedLiterals
-- The summary of a made grid. SummaryLemmas: its lines. GreatestLemmas: the greatest cursor. Degrees, SlotSums: few
-- edges stand at the vertices, so the sum over their slots fits 64 bits.
mod SummaryLemmas
mod GreatestLemmas
mod Degrees
mod SlotSums
-- Worked texts
mod Vectors
