pub mod Trees
pub mod Numbers
pub mod Laws
pub mod Walks
