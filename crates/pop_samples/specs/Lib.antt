pub mod Finishing
pub mod Frames
pub mod Exchange
pub mod Weights
pub mod Lists
pub mod Shares
pub mod Laws
pub mod ExactLaws
