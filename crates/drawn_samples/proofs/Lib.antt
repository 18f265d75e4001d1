-- Samples: what finished rows have at their cursors; all samples are a finite list
pub mod Finished
pub mod SampleLists
-- Adding up over samples
pub mod Adding
-- What is drawn
pub mod Drawing
-- The one-thread run is one log, and that of other stacks
pub mod FirstRuns
-- Runs of which more is wanted, and runs on taller stacks
pub mod WantedRuns
pub mod WantedRounds
pub mod Taller
pub mod KeyedWanted
pub mod EndedRows
-- Whole runs: what the records of a log read, and the tables that begin with it
pub mod Bumps
pub mod FrontNumbers
mod RowFronts
pub mod RunNumbers
pub mod LogsApart
-- Batches in which runs of some samples end with none
pub mod Mixed
pub mod KeyedMixed
-- Tries of which the first that gives a sample is kept, and functions of samples
pub mod Retried
pub mod Statistics
-- Tries over the same numbers, with other heights
mod Cut
mod Grown
mod MayEnd
-- Worked values
mod Vectors
