-- Tokens that are joined. Joined: they can be separated. JoinedMore: they are written one after another.
pub mod Joined
mod JoinedMore
-- What a head says. HeadWords: in no word of a head stands a line end. SpelledRows: rows that are written are read again
-- as they were. HeadLinesLemmas: each line says one thing. OneText: so a text is that of one certificate.
mod HeadWords
pub mod SpelledRows
mod HeadLinesLemmas
pub mod OneText
-- Refusals. BadLines: the first bad line. Unrefused: the text of a certificate isn't refused, and bytes are refused in
-- one way.
mod BadLines
pub mod Unrefused
-- Jobs. AskedStacks: stacks that words ask for may be written. PrintedCerts: so what is printed of a job is the text of
-- its certificate.
pub mod AskedStacks
pub mod PrintedCerts
-- Runs so far. StuckEvents: what the list of events that occur has. Resumed: runs that go on come to the end of every
-- run.
mod StuckEvents
pub mod Resumed
-- Worked values
mod Vectors
