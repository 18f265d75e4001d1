-- The laws of popping: pops commute, runs end alike
pub mod PopLemmas
pub mod Diamond
pub mod UniqueEnd
pub mod FirstRun
pub mod OneRun
pub mod TallerStacks
pub mod ValuesLemmas
-- How many pops there is room for, and what a run keeps
pub mod Room
pub mod Replays
-- Arrows that are followed, and the cycles that they make
pub mod Following
pub mod CycleFamily
pub mod Loops
pub mod MadeCycles
pub mod TreeEnd
-- Lists, cubes and languages
pub mod Members
pub mod Leasts
pub mod Sharing
pub mod Rising
pub mod LanguagesLemmas
-- Worked values
mod Vectors
