pub mod DigitsLemmas
pub mod PrintedMembers
