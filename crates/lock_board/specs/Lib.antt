pub mod Books
pub mod Attempts
pub mod ArrowLaps
pub mod Laws
