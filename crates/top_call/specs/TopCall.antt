-- The state of the source and the sink after the top call.
use Rattle.std.specs.Prelude.{◌≡◌, ◌⊎◌, ℕ, List, Option}
use Rattle.std.specs.Io.KnownBytes.{Appends, Consumes}
use Rattle.pop_model.specs.Faults.{Rose}
use Rattle.pop_edge.specs.Devices.{AppendsFront}
use Rattle.pop_words.specs.declared.job.Job.{Job}
use Rattle.pop_words.specs.CommandLines.{Asks, IsBadPlace}
use Rattle.pop_watch.specs.Telling.{Watcher}
use Rattle.job_subjects.specs.declared.stop.Stop.TheVariants.{ReadFault, OutOfMemory}
use Rattle.job_subjects.specs.declared.refusal.Refusal.TheVariants.{Usage, Stopped}
use Rattle.job_subjects.specs.Refusals.{refusal_line}
use Rattle.top_call.specs.Answers.{IsAnswer, MayFailBehind}

-- a fault of a device or a lack of memory, and no answer to arguments and an input
abbrev pub IsBreak : ℕ → Type 0
IsBreak status = (status ≡ 7) ⊎ ((status ≡ 8) ⊎ (status ≡ 9))

-- exactly the text of the answer was added to the sink
pub record Answered (words : List (List ℕ)) (watchers : List Watcher) (text : List ℕ)
    (old new : Option (List ℕ)) (status : ℕ) : Type 0 where
  pub out : List ℕ
  pub answer : IsAnswer words watchers text status out
  pub held : Appends old new out

-- exactly the line of the first invalid argument was added to the sink
pub record AnsweredUsage (words : List (List ℕ)) (old new : Option (List ℕ)) : Type 0 where
  pub place : ℕ
  pub bad : IsBadPlace words place
  pub held : Appends old new (refusal_line (Usage place))

-- The source failed: its count rose, the arguments specify a job that reads, and what was taken is
-- within the limit. Unless the source is read completely first, no line that was taken to its end
-- is rejected.
pub record HasReadFault (words : List (List ℕ)) (left left' : Option (List ℕ))
    (faults faults' : ℕ) : Type 0 where
  pub rose : Rose faults faults'
  pub job : Job
  pub asks : Asks words job
  pub taken : List ℕ
  pub consumed : Consumes left left' taken
  pub no_bad_line : MayFailBehind job.pops job.command taken

-- a text that a call may write: that of an answer, of a fault of the source, or of a lack of
-- memory
abbrev pub MayWrite : List (List ℕ) → List Watcher → List ℕ → Type 0 → List ℕ → Type 0
MayWrite words watchers text fault out =
    ((status : ℕ) × IsAnswer words watchers text status out)
    ⊎ ((fault × (out ≡ refusal_line (Stopped ReadFault))) ⊎ (out ≡ refusal_line (Stopped OutOfMemory)))

-- exactly a prefix of a text that the call may write was added to the sink
pub record IsCutShort (words : List (List ℕ)) (watchers : List Watcher) (text : List ℕ)
    (fault : Type 0) (old new : Option (List ℕ)) : Type 0 where
  pub out : List ℕ
  pub may : MayWrite words watchers text fault out
  pub held : AppendsFront old new out

-- a text for invalid arguments: the line of the first invalid one, or that of a lack of memory
abbrev pub MayWriteUsage : List (List ℕ) → List ℕ → Type 0
MayWriteUsage words out =
    ((place : ℕ) × IsBadPlace words place × (out ≡ refusal_line (Usage place)))
    ⊎ (out ≡ refusal_line (Stopped OutOfMemory))

-- exactly a prefix of a text for invalid arguments was added to the sink
pub record IsUsageCutShort (words : List (List ℕ)) (old new : Option (List ℕ)) : Type 0 where
  pub out : List ℕ
  pub may : MayWriteUsage words out
  pub held : AppendsFront old new out
