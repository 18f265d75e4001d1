pub mod Heads
pub mod Certificates
pub mod HeadLines
pub mod Refusals
pub mod Looks
pub mod Laws
