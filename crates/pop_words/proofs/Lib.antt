-- tests and lists
-- what a test of a list says of its elements
pub mod ListTests
-- what a search through rows finds, said of what contracts see of them
pub mod SeenLists
-- what is read of a word, where it passes a test
pub mod ValuesLemmas
-- values, part by part
-- the parts of a word, read one after another
pub mod Parts
-- the rows of `--stacks`, within their limits
pub mod RowParts
-- the names of `--report`
pub mod ReportParts
-- the grammar
-- what the tables of commands and options show: names tell options apart
pub mod TableFacts
-- options that were chosen, and their words
pub mod ChosenOptions
-- options that were chosen can be completed to a command line
pub mod Completing
-- so a word that may not stand is the first bad one
pub mod BadPlaces
-- so reading from left to right gives the job or the first bad place
pub mod ReadingLemmas
-- the laws
-- a list of words asks for one job, and has one bad place
pub mod OneJob
-- the numbers of a job that is asked for are in range
pub mod JobsInRange
-- what no command has by default was set by an option that was chosen, and chosen options exclude none of each other
pub mod StandingOptions
-- where rows are given, neither a last height nor a batch is asked for
pub mod GivenAlone
-- a run that may stop before its end is asked for with its stacks, their height and a root alone
pub mod PausedAlone
-- the loop
-- what the loop has read so far, and what it finds next
pub mod OptionsSoFar
-- the command word, and what is read behind it
pub mod CommandWords
-- worked values, of options and of whole lines
mod ValueVectors
mod Vectors
