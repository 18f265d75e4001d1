pub mod Clashes
pub mod Tries
pub mod Verdicts
