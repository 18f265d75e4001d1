pub mod BookLemmas
pub mod FoundEvents
