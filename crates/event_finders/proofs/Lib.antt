-- Lists: `CubePrefixes` (the first pairs of a cube), `TrailLemmas` (paths that grow and shrink, and their words). What
-- is held: `HeldEnds` (what was claimed last is given back). Listed events: `ListedEvents` (which variables the event
-- of a unit names).
--
-- Claims of an event's variables: `UnitClaimsGrow` (one more), `LeastAtLast` (the lowest variable at its last entry,
-- so far), `OwedMarksLemmas` (after a pop and its marks, no mark is owed). Results of a try at a unit: `WordsOnce` (it
-- sees no word twice), `UnitEnds` (what its claims show), `UnitTries` (all results of a try), `IdleExactly` (`Idle` is
-- the result if and only if the mark was 0).
--
-- Paths: `TrailMarks` (their marks), `TrailArrows` (the arrows lead along them), `TrailReleases` (what a pass holds of
-- a path that is released or settled). Loops: `LoopCursors` (the loop that a path closes), `LoopPops` (its pop).
-- Walks: `WalkClaims` (what a claim shows a walk), `WalkRounds` (its state after a pop), `WalkSeen` (what it adds to
-- `seen`), `WalkTraces` (how it claimed its path), `WalkGains` (its tickets and its result).
pub mod CubePrefixes
pub mod TrailLemmas
pub mod HeldEnds
pub mod ListedEvents
pub mod UnitClaimsGrow
pub mod LeastAtLast
pub mod OwedMarksLemmas
pub mod WordsOnce
pub mod UnitEnds
pub mod UnitTries
pub mod IdleExactly
pub mod TrailMarks
pub mod TrailArrows
pub mod TrailReleases
pub mod LoopCursors
pub mod LoopPops
pub mod WalkClaims
pub mod WalkRounds
pub mod WalkSeen
pub mod WalkTraces
pub mod WalkGains
