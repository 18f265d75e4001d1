-- Prefixes of lists.
pub mod Fronts
-- Logs: merged from tickets, replayed. UnitEvents: events of one unit share a variable.
pub mod SortedTickets
pub mod ReplaysLemmas
pub mod UnitEvents
-- Layers. LastLayersLemmas: how they are told in one pass.
pub mod LayersLemmas
pub mod LastLayersLemmas
-- Reorderings. Reordering: lists that come from one another by exchanges of neighbours that don't depend on one
-- another. InOrder: a list in a strict order is determined by its members. Exchanges: what an exchange of neighbours
-- keeps of a log. OneTrace: runs to an end are reorderings of one another.
pub mod Reordering
pub mod InOrder
pub mod Exchanges
pub mod OneTrace
-- The layered log. LayeredLemmas: it is a reordering of the log. LayeredLaws: it is legal, and the same for all runs to
-- an end. SortedInLayers: records that are layered as they stand are their own. PlacedRecordsLemmas: how it is sorted.
-- SaidLayers: whether the layers that are said are its own.
pub mod LayeredLemmas
pub mod LayeredLaws
pub mod SortedInLayers
mod PlacedRecordsLemmas
mod SaidLayers
-- What is printed of records, and the texts of logs
pub mod PrintedLemmas
mod PrintedPairs
pub mod PrintableLemmas
pub mod LogTextsLemmas
mod LayeredTextsLemmas
pub mod LayeredPrinting
-- Reading: lines, numbers at the front of a text, first lines, the layer and the words of a record's line
pub mod TextLinesLemmas
pub mod DecimalsLemmas
mod HeadLines
mod RecordWordsLemmas
mod PrintedWordsLemmas
-- The one record that may be legal where a record is printed
pub mod EventNumbers
pub mod NamedVariables
pub mod CandidatesLemmas
-- Reading a whole text. ReadRecords: record by record. MalformedLines, ReadingLemmas: line by line. ReadLogs: what is
-- answered at the end.
mod ReadRecords
pub mod JoinedLines
mod MalformedLines
mod ReadingLemmas
mod ReadLogs
-- That reading is exact. LegalRecords: legal records may be written. WrittenLines: the lines of their text. OnePlaced:
-- a text of version 2 is that of one list. ExactReading: a text is refused for want of memory alone, and read as one
-- log. ReadBack: a layered text is read as the layered log. OneRefusal: a text is refused in one way.
mod LegalRecords
mod WrittenLines
pub mod OnePlaced
pub mod ExactReading
mod ReadBack
pub mod OneRefusal
-- Worked values
mod Vectors
