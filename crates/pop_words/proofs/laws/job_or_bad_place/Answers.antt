use Rattle.std.proofs.Common.{inl, inr, ◌⊎◌, ℕ, List, Ok, Err, Result}
use Rattle.pop_words.specs.declared.job.Job.{Job}
use Rattle.pop_words.specs.CommandLines.{AreWords, IsBadPlace}
use Rattle.pop_words.specs.Reading.{reading}
use Rattle.pop_words.proofs.ReadingLemmas.{IsReading, reading_is}
use Rattle.pop_words.proofs.laws.job_or_bad_place.Goals as goal

by_result : (words : List (List ℕ)) (read : Result Job ℕ) → IsReading words read → AreWords words
    ⊎ ((p : ℕ) × IsBadPlace words p)
by_result words (Ok job) asks = inl (job, asks)
by_result words (Err p) bad = inr (p, bad)

pub returns : goal.returns
returns c words = by_result words (reading words) (reading_is words)
