pub mod Gains
pub mod OwedMarks
pub mod Trails
pub mod UnitAnswers
pub mod UnitConditions
pub mod UnitLooks
pub mod WalkSteps
pub mod Walks
