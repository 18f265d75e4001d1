-- From the outcome of a part to the outcome of the whole: of a job and of arguments (Carrying, Lifting, WordResults),
-- of a job by its command and by cases (ByCommand, ReadCases), of what is made from its input (MadeComes), of a
-- formula that is checked (Verdicts), of a run that may stop (PausedComes), of a source that is read completely
-- (WholeReads), and of a sink that holds the answer (HeldAnswers).
pub mod Carrying
pub mod ByCommand
pub mod ReadCases
pub mod Lifting
pub mod MadeComes
mod Verdicts
mod PausedComes
mod WholeReads
mod WordResults
mod HeldAnswers
-- ToldRefusals: how a refusal is told
mod ToldRefusals
-- ApartWords: options of two kinds that exclude each other. PauseWords: words that ask for a run that may stop.
-- BatchWords: words that ask for a batch. BatchEnds: the ends of a batch that comes of a job.
pub mod ApartWords
pub mod PauseWords
pub mod BatchWords
pub mod BatchEnds
-- AskedLocks: arguments that ask for a lock
mod AskedLocks
-- Statuses: which a text is answered by. FrontTexts: one refusal of a text past the limit and of its front.
mod Statuses
mod FrontTexts
-- Certificates. EarlyRecords: the record for which a log is refused. ReadToEnd: a source that was read whole.
-- ReplayedCerts, ResumedCerts: what comes of those that are accepted.
mod EarlyRecords
mod ReadToEnd
mod ReplayedCerts
mod ResumedCerts
