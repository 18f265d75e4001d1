-- The results of a book and of a closed board.
mod Books
mod OneMerged
mod ClosedBoards
-- Rounds of a sole pass over all units
mod Rounds
-- What the answers of finders say
mod Looks
-- The index that workers look in
mod FamilyIndexes
-- Heights that grow: who serves an instance at each, stacks that are raised, and a stage behind others
pub mod Serving
pub mod RaisedInstances
mod StageTurns
