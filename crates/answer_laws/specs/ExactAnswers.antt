-- The theorem of exactness, stated for answers: the sample with which the run over given rows ends
-- may be replaced in these rows by any other sample (Propp and Wilson 1998; Guo, Jerrum and Liu
-- 2019).
use Rattle.std.specs.Prelude.{◌≡◌, ◌↔◌, ℕ, ◌<◌, ◌≤◌, ◌^◌, List, [], length, map, replicate, All, Contains}
use Rattle.pop_model.specs.Popping.{values_at}
use Rattle.pop_model.specs.Instances.{Instance}
use Rattle.pop_stacks.specs.declared.stack_spec.StackSpec.TheVariants.{Given}
use Rattle.pop_stacks.specs.Faults.{AreLight}
use Rattle.pop_samples.specs.Frames.{Rows, Frame, IsSampleOf}
use Rattle.pop_samples.specs.Exchange.{exchange}
use Rattle.pop_words.specs.declared.command.Command.{Command}
use Rattle.pop_words.specs.declared.command.Command.TheVariants.{Formula, Orient, Tree, Make, Rounds}
use Rattle.pop_words.specs.declared.job.Job.{Job}
use Rattle.pop_words.specs.Options.{default_job, quiet}
use Rattle.pop_words.specs.CommandLines.{Asks}
use Rattle.pop_watch.specs.Telling.{Watcher}
use Rattle.run_cert.specs.Heads.{MayBeStacks}
use Rattle.pop_print.specs.declared.facts.Facts.{Facts}
use Rattle.told_runs.specs.Tellings.{Telling}
use Rattle.told_runs.specs.Outcomes.Outcome.{Ended}
use Rattle.top_call.specs.Answers.{wanted_by, IsOutcome}
use Rattle.job_subjects.specs.Subjects.{Subject, IsSubjectOf}

-- the job with these rows for its stacks
abbrev pub over_rows : Job → Rows → Job
over_rows job rows = record job { stacks = Given rows }

-- what is fixed of an instance before its rows are, if they have these heights
abbrev pub frame_of : Instance → List ℕ → Frame
frame_of i heights =
    record { family = i.family; weights = i.stacks.weights; heights = heights }

-- what is fixed of a subject, if its rows have these heights
abbrev pub frame_over : Subject → List ℕ → Frame
frame_over s heights = record { family = s.family; weights = s.weights; heights = heights }

-- The answer to the arguments and the input is this sample. The run ends at these cursors, after
-- this number of pops. No event occurs there, and the values are these. This is what the answer
-- prints after it.
pub record IsSampledBy (words : List (List ℕ)) (watchers : List Watcher) (text : List ℕ)
    (facts : Facts) (values cursors : List ℕ) (pops : ℕ) (telling : Telling) : Type 0 where
  pub instance : Instance
  pub outcome : IsOutcome words watchers text (Ended facts instance cursors pops [] telling)
  pub sample : values_at instance.stacks cursors ≡ values

-- If the answer over given rows is a sample, then the answer over the rows with another sample in
-- its place is that sample. The lines of cursors and pops are the same, and so are the log, the
-- witness and the reports that are asked for.
abbrev pub ExchangedAnswers : Type 0
ExchangedAnswers = (job : Job) (rows : Rows) (words others : List (List ℕ))
    (watchers : List Watcher) (text : List ℕ)
    (facts : Facts) (i : Instance) (cursors : List ℕ) (pops : ℕ) (telling : Telling) (x : List ℕ)
    → Asks words (over_rows job rows) → Asks others (over_rows job (exchange rows cursors x))
    → IsOutcome words watchers text (Ended facts i cursors pops [] telling)
    → IsSampleOf (frame_of i (map length rows)) x
    → IsSampledBy others watchers text facts x cursors pops telling

-- rows of these heights, for which the answer is this sample, without any pop
pub record IsReached (job : Job) (text : List ℕ) (s : Subject) (heights x : List ℕ)
    : Type 0 where
  pub rows : Rows
  pub lengths : map length rows ≡ heights
  pub answers : (words : List (List ℕ)) (watchers : List Watcher) → Asks words (over_rows job rows)
      → (telling : Telling)
      × IsSampledBy words watchers text s.facts x (replicate (length x) 0) 0 telling

-- Each sample of the subject of `formula`, `orient`, `tree` or `make` is the answer for some rows,
-- of any heights. That is each assignment under which no event occurs, each sink-free orientation,
-- and each tree to the root.
abbrev pub ReachedAnswers : Type 0
ReachedAnswers = (job : Job) (text : List ℕ) (s : Subject) (heights x : List ℕ)
    → Contains quiet job.command → IsSubjectOf job.command (wanted_by job) text s
    → AreLight s.weights → length heights ≡ length s.weights → All (λ h. 0 < h) heights
    → IsSampleOf (frame_over s heights) x → IsReached job text s heights x

-- a job of such a command with no option except a root, or the side of a grid
abbrev pub IsPlain : Command → Job → Type 0
IsPlain Formula job = job ≡ default_job Formula
IsPlain Orient job = job ≡ default_job Orient
IsPlain Rounds job = job ≡ default_job Rounds
IsPlain Tree job = (root : ℕ) × (0 < root) × (root < 2 ^ 32)
    × (job ≡ record (default_job Tree) { root = root })
IsPlain Make job = (side : ℕ) × (0 < side) × (side ≤ 2048)
    × (job ≡ record (default_job Make) { size = side })
IsPlain command job = ⊥

-- Some arguments ask for such a job over rows if and only if the rows are within the limits of
-- arguments.
abbrev pub AskedRows : Type 0
AskedRows = (job : Job) (rows : Rows) → IsPlain job.command job
    → ((words : List (List ℕ)) × Asks words (over_rows job rows)) ↔ MayBeStacks (Given rows)
