-- From the outcome of a job to the outcome of the arguments that specify it.
use Rattle.std.proofs.Common.{inl, inr, ◌≡◌, ◌≢◌, ◌⊎◌, ℕ, false, List, Option, Some, sym, ap, ◌∙◌}
use Rattle.std.proofs.lemmas.Bool.{false≢true}
use Rattle.pop_words.specs.declared.command.Command.{Command}
use Rattle.pop_words.specs.declared.command.Command.TheVariants.{Resample, Make}
use Rattle.pop_words.specs.declared.job.Job.{Job}
use Rattle.pop_words.specs.CommandLines.{Asks}
use Rattle.pop_words.proofs.OneJob.{same_job}
use Rattle.pop_watch.specs.Telling.{Watcher}
use Rattle.told_runs.specs.declared.asked.Asked.{Asked}
use Rattle.told_runs.specs.Asking.{has_free_order, asked_by}
use Rattle.told_runs.specs.Outcomes.{Outcome}
use Rattle.told_runs.specs.Outcomes.Outcome.{Refused}
use Rattle.top_call.specs.Answers.{ComesBy, IsOutcome, AskForGrid, IsInput}

-- what comes of a job comes of the words that ask for it
pub of_words : (words : List (List ℕ)) (job : Job) (ws : List Watcher) (text : List ℕ) → Asks words job → (o : Outcome)
    → ComesBy job.command job ws text o → IsOutcome words ws text o
of_words words job ws text asks (Refused r) comes = inr (record { job = job; asks = asks; comes = comes })
of_words words job ws text asks o comes = record { job = job; asks = asks; comes = comes }

-- whether the order of pops is free goes by the command
pub free_by : (job : Job) (asked : Asked) (command : Command) → asked ≡ asked_by job → job.command ≡ command
    → asked.free ≡ has_free_order command
free_by job asked command asked_is is = ap (λ (a : Asked). a.free) asked_is ∙ ap has_free_order is

-- and where it isn't, nothing is resampled
pub ordered_by : (job : Job) (asked : Asked) → asked ≡ asked_by job → asked.free ≡ false → job.command ≢ Resample
ordered_by job asked asks free is = false≢true (sym free ∙ free_by job asked Resample asks is)

-- The input of words that ask for a job is what the source has left, or the job is that of a grid.
pub input_of_job : (words : List (List ℕ)) (job : Job) (left : Option (List ℕ)) (text : List ℕ) → Asks words job
    → IsInput words left text → (left ≡ Some text) ⊎ (job.command ≡ Make)
input_of_job words job left text asks (inl known) = inl known
input_of_job words job left text asks (inr (other, asks', make)) =
    inr (ap (λ (j : Job). j.command) (same_job words job other asks asks') ∙ make)

-- the job of words that ask for a grid is that of a grid
pub grid_job : (words : List (List ℕ)) (job : Job) → Asks words job → AskForGrid words → job.command ≡ Make
grid_job words job asks (other, asks', make) = ap (λ (j : Job). j.command) (same_job words job other asks asks') ∙ make
