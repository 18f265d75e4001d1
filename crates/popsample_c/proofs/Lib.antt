-- Lemmas of the crate.
mod FittingCalls
mod Pushed
mod Utf8Words
