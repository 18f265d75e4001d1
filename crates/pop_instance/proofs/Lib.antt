-- Arrows: heads row by row, from lists and from numbers
pub mod HeadRows
mod NumberRows
-- Cubes: a cycle followed once round, a variable looked up, an event popped pair by pair
mod CycleReturns
mod Demands
mod Raising
-- Lists that rise, and the order of cubes
pub mod Increasing
mod Order
mod PermutedPairs
-- Gathering: digests that differ; the first of equal cubes, under its number
mod Digests
mod FirstOfEach
mod Gathered
-- The index: places counted, put into rows, and named
mod Tallies
mod PutRows
mod FilledRows
mod Naming
-- Listed events: numbers that rise, and rows of an index
pub mod ListedEvents
-- Values: those of the first variables, as they become more
mod FirstValuesLemmas
-- Worked values
mod Vectors
mod ShiftedRowsLemmas
