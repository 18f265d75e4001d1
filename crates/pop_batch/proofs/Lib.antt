-- Zipped: ends that numbers were made into, each under its number. OneBatch: so many samples have one list of ends.
mod Zipped
pub mod OneBatch
pub mod StoppedRuns
pub mod StopsKeepEnd
