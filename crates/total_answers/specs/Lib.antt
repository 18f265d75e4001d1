pub mod Totality
