-- At most one answer. OneSubject: an input has at most one subject, since clauses and a graph have one list of events.
-- RefusedStacks, RefusedSubjects: at most one error for a formula or a graph, and none if it can be sampled.
-- OneRefusal: so an input has at most one error. RefusedOr: an outcome is an error, with a status of no run, or
-- another outcome.
--
-- ToldLogs: a layered log has one printed form, and a run without pops has one too. OneEnd: so what is made has one
-- end, by rounds too, or two if the order is free, or a pause beside these. OneOutcome: so a job has at most one
-- outcome. OneReplay: the same for certificates (MadeBounds: what a certificate runs is an instance). OneWords: the
-- same for arguments, and at most one outcome for each log.
pub mod OneSubject
mod RefusedStacks
mod RefusedSubjects
pub mod RefusedOr
mod OneRefusal
mod ToldLogs
mod OneEnd
pub mod OneOutcome
pub mod MadeBounds
mod OneReplay
mod OneWords
-- ToldSubjects: what an outcome tells of a run, it tells of what is sampled.
pub mod ToldSubjects
-- OptionKinds: words without some options, and what options of one kind alone set. AlikeWords: words of which the same
-- comes, for any number of workers, and in stages or not.
-- PausedCerts: a run that may stop does so where each has more pops, and leaves a certificate. ResumedUnpaused: it is
-- resumed as its line, so a run that paused goes on as one that didn't.
-- CutLogs: where the text of a log begins and ends. ShownLogs: so an output determines the log that it shows.
-- FirstSample: a batch begins with the sample of its job without a number. BatchFront: and with a smaller batch.
-- RoundsLikeFormula: rounds of extremal events
-- end as their run.
mod OptionKinds
mod AlikeWords
mod PausedCerts
mod ResumedUnpaused
mod CutLogs
mod ShownLogs
mod FirstSample
pub mod BatchFront
mod RoundsLikeFormula
-- SameReading: texts that are read alike. SameLines: texts that say the same are.
mod ResampleLikeFormula
mod SameReading
mod SameLines
-- Statuses. Finished: with 0 no event occurs; and there is one of a run where nothing stands against words and text.
-- ShownSamples: with 0 and 1 an end is shown, of all that is sampled, by rounds too (ShownSubjects), and of a batch
-- (ShownBatches), whatever stands behind it (ShownBehind).
pub mod Finished
mod ShownSubjects
mod ShownBatches
mod ShownBehind
mod ShownSamples
-- The exact law of answers. AskedRows: which rows words give. OtherRows: and with which options. SubjectKinds: what holds
-- of each kind of what is sampled; so the events and weights fit rows of any heights. ExactAnswers: another sample is
-- answered in the place of the printed one.
-- EverySample: what satisfies a formula, leaves no sink or leads to the root is a sample; of a formula nothing else is.
mod AskedRows
mod OtherRows
pub mod SubjectKinds
mod ExactAnswers
pub mod EverySample
-- So it is of rounds, for every formula. RoundAnswers: another assignment is answered in the place of the printed one.
-- RoundOutputs: what is printed.
pub mod RoundAnswers
mod RoundOutputs
-- KeyAnswers: the law of keys, said of answers. StoppedAnswers: and of runs that are given up.
-- RetriedAnswers: and of the first sample of several calls.
-- StatisticAnswers: and of functions of a sample.
-- TallerAnswers, TallerBatches, TallerRounds: samples stay what they are over taller stacks.
-- MixedAnswers: batches of which some samples are exhausted. ExhaustedAnswers: when there is no sample.
pub mod KeyAnswers
mod StoppedAnswers
mod RetriedAnswers
mod StatisticAnswers
mod TallerAnswers
mod TallerBatches
mod TallerRounds
mod MixedAnswers
mod ExhaustedAnswers
-- Printed samples. PrintedApart: different ones print different lines. SpanningTrees: each spanning tree is printed.
-- LoopedEdges: loops of a graph that is oriented. LikeSamples: what is printed tells the sample, but at loops.
-- PrintedCounts, PrintedRounds: equally many words print each sample. FoundVertices, FoundTrees: what is asked of a log
-- has a witness. ListedOutputs: so these words are finitely many.
pub mod PrintedApart
mod SpanningTrees
mod LoopedEdges
mod LikeSamples
mod PrintedCounts
mod PrintedRounds
mod FoundVertices
mod FoundTrees
mod ListedOutputs
