-- Logs on other stacks: they stay legal, and finish at the same cursors
pub mod MovedLogs
pub mod Finishing
-- The exchange of samples: rows of a frame, entries at cursors, what another sample leaves
pub mod FrameRows
pub mod Exchanging
pub mod ExchangedSamples
pub mod Reached
-- Counting: lists that are matched, so equally many rows finish with each sample
pub mod Matching
pub mod ExactCounts
-- All rows are a finite list, of which those are kept whose run ends with a sample; Reaching: at cursors, some log does
pub mod Conses
pub mod AllRows
pub mod FoundCycles
pub mod Ending
pub mod Reaching
pub mod Listing
-- The numbers that entries of a key are made of
pub mod Rounding
pub mod Numbers
pub mod Shares
-- Worked values
mod Vectors
