-- Reading: word by word, line by line, to the end of the text, and what is answered
pub mod FlatLemmas
pub mod TakenWords
pub mod TakenLines
pub mod FinishedText
pub mod AnsweredText
-- The law: a text has no refusal exactly where it is in the grammar
pub mod GrammarLaw
-- Events: the literals of a formula, the cube of a clause, and the rows of all clauses
pub mod LiteralsLemmas
pub mod CubesOfClauses
pub mod EventsOfClauses
-- Arrays of literals, number by number
pub mod ArrayClauses
-- Worked values
mod Vectors
