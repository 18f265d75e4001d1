pub mod Refusals
pub mod StackFaults
pub mod Subjects
pub mod Made
pub mod Refused
