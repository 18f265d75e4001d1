-- Bytes: taken in pieces, cut at line ends, and what a call of `next` has read
mod Pieces
mod Cutting
mod ReadingOn
-- Lines: of closed bytes, of the bytes that were taken, and of a text that isn't read to its end
pub mod LinesLemmas
pub mod GivenLines
pub mod AnsweredLines
-- Refusals: the first of items one behind another, of lines, and of a whole text
pub mod RefusalsLemmas
pub mod JudgedLines
pub mod AcceptedTexts
-- The words and numbers of a line
pub mod WordsLemmas
pub mod NumbersLemmas
-- Worked values
mod Vectors
