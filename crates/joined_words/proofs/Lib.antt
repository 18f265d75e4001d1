mod FoundWords
mod NoWords
