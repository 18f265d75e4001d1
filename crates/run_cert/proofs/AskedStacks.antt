-- Stacks that arguments specify may be written in the head of a certificate: the stacks that were read from an
-- argument may, and each option preserves this.
use Rattle.std.proofs.Common.{◌≡◌, ℕ, zero, suc, ◌<◌, List, [], ◌∷◌, replicate, Option, Some, None, unwrap_or, refl, sym, subst, arith}
use Rattle.std.specs.List.{AllByRecursion}
use Rattle.pop_words.specs.declared.job.Job.{Job}
use Rattle.pop_words.specs.declared.field.Field.{Field}
use Rattle.pop_words.specs.declared.field.Field.TheVariants.{Stacks, Key}
use Rattle.pop_words.specs.Values.{rows_in, key_in}
use Rattle.pop_words.specs.Options.{default_job, value_of}
use Rattle.pop_words.specs.CommandLines.{Choice, Asks, job_from, set_option}
use Rattle.pop_words.proofs.JobsInRange.{of_map}
use Rattle.run_cert.specs.Heads.{MayBeStacks}
use Rattle.run_cert.proofs.HeadLinesLemmas.{key_read}
use Rattle.run_cert.proofs.SpelledRows.{rows_read}

-- ---- what the options leave

-- the stacks of a job may be written
abbrev MayBeJob : Job → Type 0
MayBeJob job = MayBeStacks job.stacks

-- a value leaves them so
keeps_stacks : (f : Field) (word : List ℕ) (job : Job) (set : Job → Job) → value_of f word ≡ Some set → MayBeJob job
    → MayBeJob (set job)
keeps_stacks Stacks word job set some is = of_map MayBeJob job set _ (rows_in word) (rows_read word) some
keeps_stacks Key word job set some is = of_map MayBeJob job set _ (key_in word) (key_read word) some
keeps_stacks f word job set some is = of_map MayBeJob job set _ _ (λ x read. is) some

-- so does a choice
choice_keeps : (job : Job) (p : Choice) → MayBeJob job → MayBeJob (set_option job p)
choice_keeps job p is = by_value (value_of p.0.field p.1) refl
  where
    by_value : (value : Option (Job → Job)) → value_of p.0.field p.1 ≡ value
        → MayBeJob (unwrap_or value (λ j. j) job)
    by_value None none = is
    by_value (Some set) some = keeps_stacks p.0.field p.1 job set some is

-- so do choices one after another
choices_keep : (job : Job) (chosen : List Choice) → MayBeJob job → MayBeJob (job_from job chosen)
choices_keep job [] is = is
choices_keep job (p ∷ chosen) is = choices_keep (set_option job p) chosen (choice_keeps job p is)

-- zeros are bytes
zeros_may : (n : ℕ) → AllByRecursion (λ b. b < 256) (replicate n 0)
zeros_may zero = tt
zeros_may (suc n) = (omega arith, zeros_may n)

-- so the stacks of a job that is asked for may be written
pub asked_stacks : (words : List (List ℕ)) (job : Job) → Asks words job → MayBeStacks job.stacks
asked_stacks words job asks =
    subst MayBeJob (sym asks.job_is) (choices_keep (default_job asks.command) asks.chosen (refl, zeros_may 32))
