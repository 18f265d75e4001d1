pub mod Closings
pub mod Attempts
pub mod AtWork
pub mod Serving
pub mod Locks
pub mod Stages
