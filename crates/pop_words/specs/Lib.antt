pub mod Values
pub mod Options
pub mod CommandLines
pub mod Reading
pub mod Settings
pub mod Laws
