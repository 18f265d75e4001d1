-- What status 1 means for a run on one thread: within the heights of its stacks, no log leads to a
-- sample.
use Rattle.std.specs.Prelude.{◌≡◌, ◌↔◌, ℕ, ◌≤◌, List, Contains, slice_get, Some}
use Rattle.pop_model.specs.Instances.{Instance, instance_for}
use Rattle.pop_model.specs.Runs.{start_of}
use Rattle.confluence_core.specs.declared.end.End.{End}
use Rattle.confluence_core.specs.Laws.{CanFinish}
use Rattle.pop_words.specs.declared.job.Job.{Job}
use Rattle.pop_words.specs.Options.{quiet}
use Rattle.pop_words.specs.CommandLines.{Asks}
use Rattle.pop_watch.specs.Telling.{Watcher}
use Rattle.told_runs.specs.Outcomes.{Outcome, status_of}
use Rattle.told_runs.specs.Outcomes.Outcome.{Ended, Batched}
use Rattle.top_call.specs.Answers.{IsOutcome}

-- no legal log of the instance leads from zeros to cursors at which no event occurs
abbrev pub HasNoSample : Instance → Type 0
HasNoSample i = CanFinish i (start_of i) → ⊥

-- sample j of a batch has no such log
pub record MissesSample (i : Instance) (ends : List End) : Type 0 where
  pub sample : ℕ
  pub end : End
  pub is : slice_get ends sample ≡ Some end
  pub none : HasNoSample (instance_for sample i)

-- a run, or some sample of a batch, has no such log
abbrev pub IsExhausted : Outcome → Type 0
IsExhausted (Ended facts i cursors pops stuck telling) = HasNoSample i
IsExhausted (Batched facts i ends) = MissesSample i ends
IsExhausted o = ⊥

-- Take an outcome of `formula`, `orient`, `tree` or `make` that is an end. Its status is 1 if and
-- only if no legal log within the heights leads to a sample. The status of a batch is 1 if and
-- only if this holds for some sample of it.
abbrev pub ExhaustedAnswers : Type 0
ExhaustedAnswers = (job : Job) (words : List (List ℕ)) (watchers : List Watcher) (text : List ℕ)
    (o : Outcome) → Contains quiet job.command → Asks words job
    → IsOutcome words watchers text o → status_of o ≤ 1
    → (status_of o ≡ 1) ↔ IsExhausted o
