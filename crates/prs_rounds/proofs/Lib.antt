-- The resampling set. OnlyOccurring: on an extremal instance it has just the events that occur. Fates: no event has two
-- fates, and where none is left to look at, the steps have ended. ClosedSets: each event that shares a variable with
-- one
-- of the set is in it or excluded.
pub mod OnlyOccurring
pub mod Fates
pub mod ClosedSets
-- Rounds. OneRun: the run has one result. PoppedTogether: the events that occur together are popped one after another.
-- StuckEvents: the list of the events that occur. LikeFirst: on an extremal instance rounds end as the one-thread run.
pub mod OneRun
pub mod PoppedTogether
pub mod StuckEvents
pub mod LikeFirst
-- The search for the set. ShownLemmas: what values show. GrowthLemmas: one mark more, and marks after marks.
-- CoveringLemmas: covered variables, one after another. JoinedLemmas: the first events. MarkedSteps: a step of marking
-- is a step of the set. MarkedEnds: the marks at the beginning and at the end. GrownSets: the places that joined.
pub mod ShownLemmas
pub mod GrowthLemmas
pub mod CoveringLemmas
pub mod JoinedLemmas
pub mod MarkedSteps
pub mod MarkedEnds
pub mod GrownSets
-- A round. MovesLemmas: the least variable at its last entry, and values that are read anew. RoundsLemmas: a round as
-- it
-- is made. RoundRoom: each round takes from the room, so the run ends.
pub mod MovesLemmas
pub mod RoundsLemmas
pub mod RoundRoom
-- Runs that stop and go on
pub mod GoingOn
