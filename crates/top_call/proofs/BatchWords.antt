-- Arguments that ask for a number of samples. Their command is one with batches, their entries come from a key, and no
-- part of a log is printed. The options that print parts of one run exclude the option for many samples.
use Rattle.std.proofs.Common.{inl, inr, ◌≡◌, ◌≢◌, ℕ, Bool, true, false, List, Option, None, Some, refl, sym, ap, subst, ◌∙◌}
use Rattle.std.specs.Prelude.{unwrap_or}
use Rattle.std.proofs.lemmas.Bool.{false≢true, both_ways}
use Rattle.std.proofs.lemmas.Option.{none-some}
use Rattle.pop_model.specs.Stacks.{IsKeyed}
use Rattle.pop_stacks.specs.declared.stack_spec.StackSpec.{StackSpec}
use Rattle.pop_stacks.specs.declared.stack_spec.StackSpec.TheVariants.{Key as KeyedStacks, Given as GivenStacks}
use Rattle.pop_stacks.specs.Tables.{origin_of}
use Rattle.pop_words.specs.declared.command.Command.{Command}
use Rattle.pop_words.specs.declared.command.Command.TheVariants.{Formula, Orient, Tree, Resample, Rounds}
use Rattle.pop_words.specs.declared.field.Field.{Field}
use Rattle.pop_words.specs.declared.field.Field.TheVariants.{Count, Log, Witness, Reports}
use Rattle.pop_words.specs.declared.job.Job.{Job}
use Rattle.pop_words.specs.declared.reports.Reports.{Reports as ReportsOf}
use Rattle.pop_words.specs.Values.{no_reports}
use Rattle.pop_words.specs.Options.{command_row, value_of}
use Rattle.pop_words.specs.CommandLines.{Asks}
use Rattle.pop_words.proofs.GivenAlone.{asked_alone}
use Rattle.top_call.specs.Answers.{last_height, origin_for}
use Rattle.top_call.proofs.ApartWords.{kept, AreKinds, settled}
use Rattle.top_call.proofs.PauseWords.{none_of}

-- the commands that have batches
abbrev pub is_batched : Command → Bool
is_batched Formula = true
is_batched Orient = true
is_batched Tree = true
is_batched command = false

-- the field is that of the number of samples
abbrev counts : Field → Bool
counts Count = true
counts field = false

-- the field tells of the log of one run
abbrev tells : Field → Bool
tells Log = true
tells Witness = true
tells Reports = true
tells field = false

-- what a job tells of its log
abbrev told : Job → Bool × (Option (ℕ × ℕ) × ReportsOf)
told job = (job.log, (job.witness, job.reports))

-- what it tells unasked
abbrev unasked : Command → Bool × (Option (ℕ × ℕ) × ReportsOf)
unasked command = ((command_row command).log, (None, no_reports))

-- each but `--count` leaves the number of samples
keeps_count : (f : Field) (word : List ℕ) (job : Job) → counts f ≡ false
    → (unwrap_or (value_of f word) (λ j. j) job).count ≡ job.count
keeps_count Count word job other = absurd (false≢true (sym other))
keeps_count f word job other = kept (λ (j : Job). j.count) _ (λ x j. refl) job _

-- each that tells nothing leaves what is told
keeps_told : (f : Field) (word : List ℕ) (job : Job) → tells f ≡ false
    → told (unwrap_or (value_of f word) (λ j. j) job) ≡ told job
keeps_told Log word job other = absurd (false≢true (sym other))
keeps_told Witness word job other = absurd (false≢true (sym other))
keeps_told Reports word job other = absurd (false≢true (sym other))
keeps_told f word job other = kept told _ (λ x j. refl) job _

-- `--count` tells nothing
counts_no_telling : (f : Field) → counts f ≡ true → tells f ≡ false
counts_no_telling Count is = refl
counts_no_telling f is = absurd (false≢true is)

-- it has commands with batches alone, and excludes what tells
count_or_told : AreKinds counts tells (λ (j : Job). j.count) told is_batched
count_or_told = record {
  leaves = keeps_count;
  others_leave = keeps_told;
  apart = counts_no_telling;
  all_fit = refl;
  all_keep_out = refl;
}

-- where a number of samples is asked for, the command has batches, and nothing is told of a log
of_batch : (words : List (List ℕ)) (job : Job) → Asks words job → (count : ℕ) → job.count ≡ Some count
    → (is_batched job.command ≡ true) × (told job ≡ unasked job.command)
of_batch words job asks count is =
    elim (settled counts tells (λ (j : Job). j.count) told is_batched count_or_told words job asks) [
      | inl none ↦ absurd (none-some count (sym none ∙ is))
      | inr of ↦ of
    ]

-- the command of such words has batches
pub counted_command : (words : List (List ℕ)) (job : Job) → Asks words job → (count : ℕ) → job.count ≡ Some count
    → is_batched job.command ≡ true
counted_command words job asks count is = (of_batch words job asks count is).0

-- so it is neither resampled nor sampled by rounds
pub batched_ordered : (k : Command) → is_batched k ≡ true → k ≢ Resample
batched_ordered k batched is = false≢true (sym (ap is_batched is) ∙ batched)

pub batched_no_rounds : (k : Command) → is_batched k ≡ true → k ≢ Rounds
batched_no_rounds k batched is = false≢true (sym (ap is_batched is) ∙ batched)

-- so of another command there is one sample
pub uncounted : (words : List (List ℕ)) (job : Job) → Asks words job → is_batched job.command ≡ false
    → job.count ≡ None
uncounted words job asks other =
    none_of job.count (λ n is. both_ways (is_batched job.command) other (counted_command words job asks n is))

-- nothing is told of a log
pub record IsQuiet (job : Job) : Type 0 where
  pub log : job.log ≡ false
  pub witness : job.witness ≡ None
  pub reports : job.reports ≡ no_reports

-- so it is where no log, no witness and no report is told
quiet_parts : (job : Job) → told job ≡ (false, (None, no_reports)) → IsQuiet job
quiet_parts job quiet = record {
  log = ap (λ (p : Bool × (Option (ℕ × ℕ) × ReportsOf)). p.0) quiet;
  witness = ap (λ (p : Bool × (Option (ℕ × ℕ) × ReportsOf)). p.1.0) quiet;
  reports = ap (λ (p : Bool × (Option (ℕ × ℕ) × ReportsOf)). p.1.1) quiet;
}

-- a command that has batches tells no log unasked
quiet_by : (command : Command) (job : Job) → is_batched command ≡ true → told job ≡ unasked command → IsQuiet job
quiet_by Formula job is quiet = quiet_parts job quiet
quiet_by Orient job is quiet = quiet_parts job quiet
quiet_by Tree job is quiet = quiet_parts job quiet
quiet_by command job is quiet = absurd (false≢true is)

-- so it is where a number of samples is asked for
pub counted_quiet : (words : List (List ℕ)) (job : Job) → Asks words job → (count : ℕ) → job.count ≡ Some count
    → IsQuiet job
counted_quiet words job asks count is =
    let of = of_batch words job asks count is in quiet_by job.command job of.0 of.1

-- and the entries come from a key
pub counted_keyed : (words : List (List ℕ)) (job : Job) → Asks words job → (count : ℕ) → job.count ≡ Some count
    → IsKeyed (origin_for job)
counted_keyed words job asks count is = by_stacks job.stacks refl
  where
    by_stacks : (spec : StackSpec) → job.stacks ≡ spec → IsKeyed (origin_of job.stacks (last_height job))
    by_stacks (GivenStacks rows) from =
        absurd (none-some count (sym (asked_alone words job asks rows from).1 ∙ is))
    by_stacks (KeyedStacks key) from = subst (λ s. IsKeyed (origin_of s (last_height job))) (sym from) tt
