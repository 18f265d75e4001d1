-- Lemmas about makers of runs.
pub mod Brought
