-- What holds or doesn't is found by trying (Deciding), and what is of a kind is listed by its keys (Numbered).
mod Deciding
mod Numbered
-- A text spells a formula or a graph, or it is refused (Texts). Stacks are sound, or have a fault (SoundStacks).
mod Texts
mod SoundStacks
-- The events of a formula (ClauseEvents), of a graph's sinks (SinkEvents); the vertices that are cut off (Connections).
mod ClauseEvents
mod SinkEvents
mod Connections
-- Listed events are extremal, or two clash (Clashes). So what a command samples is made, or its text refused (Making).
mod Clashes
mod Making
-- At any cursors the cycles that occur are found (CyclesAt), and so are all events that do, and an end of a run
-- (StuckFound).
mod CyclesAt
mod StuckFound
-- Each record of a log has a witness tree (TreesFound), of vertices that join one by one (VerticesFound).
mod VerticesFound
mod TreesFound
-- So what is asked for of a log is told (TellingsFound).
mod TellingsFound
-- So many samples have ends (BatchesFound); and so something comes of the line of a job (LinesFound).
mod BatchesFound
mod LinesFound
-- What is one of finitely many is found (FiniteLists), and so what may stand in the lines of a log text (LogLines).
mod FiniteLists
mod LogLines
-- The text of a log is read, or refused (LogsRead), and it is found how a run stands (LooksFound).
mod LogsRead
mod LooksFound
-- Some head is such, or none (HeadsFound). So bytes are a certificate with a legal log, or refused (CertsRead).
mod HeadsFound
mod CertsRead
-- So every line has an answer (Answered).
mod Answered
-- And valid input has one with the status of a run (ValidAnswers).
mod ValidAnswers
