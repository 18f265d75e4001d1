-- Rows and weights: kept in vectors, and as running sums
mod RowsLemmas
mod SumsInPlace
mod WeightsBySums
-- Values: drawn by the sums, one or a group at a time, from the words of a key
pub mod DrawsLemmas
mod ManyDraws
mod KeyedEntries
-- What a reader keeps: bits in words, and groups in lines
mod PlaneLemmas
mod QuadLemmas
mod KeptLemmas
-- The law: the value is the least whose weights exceed the scaled number
pub mod ValueIsLeast
-- Worked values
mod Vectors
