-- The outcome of a job and an input, by three cases: an error of the input, a verdict on it, or the run of what is
-- made from it; and the run by how it is printed.
use Rattle.std.proofs.Common.{inl, inr, ◌≡◌, ◌⊎◌, ℕ, List, Option, refl}
use Rattle.std.specs.Prelude.{⊤}
use Rattle.pop_model.specs.Families.{Event}
use Rattle.pop_model.specs.Instances.{Instance}
use Rattle.confluence_core.specs.declared.end.End.{End}
use Rattle.pop_log.specs.Layers.{Placed}
use Rattle.pop_words.specs.declared.command.Command.{Command}
use Rattle.pop_words.specs.declared.command.Command.TheVariants.{Resample, Check, Rounds}
use Rattle.pop_words.specs.declared.job.Job.{Job}
use Rattle.pop_watch.specs.Telling.{Watcher}
use Rattle.pop_print.specs.declared.facts.Facts.{Facts}
use Rattle.run_cert.specs.declared.look_kind.Look.{Look}
use Rattle.job_subjects.specs.declared.refusal.Refusal.{Refusal}
use Rattle.job_subjects.specs.Refused.{RefusesText}
use Rattle.told_runs.specs.declared.asked.Asked.{Asked}
use Rattle.told_runs.specs.Asking.{asked_by}
use Rattle.told_runs.specs.Tellings.{Telling}
use Rattle.told_runs.specs.Ends.{IsEndOf, IsHistoryOf, IsRoundsEndOf}
use Rattle.told_runs.specs.Outcomes.{Outcome}
use Rattle.told_runs.specs.Outcomes.Outcome.{Refused, Extremal, Ended, Resampled, Rounded, Batched, Paused, Replayed}
use Rattle.top_call.specs.Checks.{IsExtremalText}
use Rattle.top_call.specs.Pauses.{IsPause, IsPausedAt}
use Rattle.top_call.specs.Answers.{wanted_by, EndsAs, ComesOfRun, ComesOf}

-- the outcome is such a refusal, or such a verdict, or that of a run
abbrev pub Cases : Job → List Watcher → List ℕ → Outcome → Type 0
Cases job ws text o =
    ((r : Refusal) × (o ≡ Refused r) × RefusesText (wanted_by job) text r)
    ⊎ (((n : ℕ) × (o ≡ Extremal n) × (job.command ≡ Check) × IsExtremalText text n) ⊎ ComesOfRun job ws text o)

pub read_cases : (job : Job) (ws : List Watcher) (text : List ℕ) (o : Outcome) → ComesOf job ws text o
    → Cases job ws text o
read_cases job ws text (Refused r) h = inl (r, refl, h)
read_cases job ws text (Extremal n) h = inr (inl (n, refl, h.0, h.1))
read_cases job ws text o h = inr (inr h)

-- an outcome that tells the end of a run, or of many
abbrev pub IsAnEnd : Outcome → Type 0
IsAnEnd (Ended t i c n s a) = ⊤
IsAnEnd (Resampled t i l s a) = ⊤
IsAnEnd (Rounded t i c n s v) = ⊤
IsAnEnd (Batched t i es) = ⊤
IsAnEnd o = ⊥

-- each run ends so
pub is_end : (k : Command) (asked : Asked) (ws : List Watcher) (facts : Facts) (i : Instance) (o : Outcome)
    → EndsAs k asked ws facts i o → IsAnEnd o
is_end k asked ws facts i (Ended t j c n s a) h = tt
is_end k asked ws facts i (Resampled t j l s a) h = tt
is_end k asked ws facts i (Rounded t j c n s v) h = tt
is_end k asked ws facts i (Batched t j es) h = tt
is_end Resample asked ws facts i o h = h
is_end Rounds asked ws facts i o h = h
is_end k asked ws facts i o h = h

-- so no run is told as what is neither an end nor a pause
no_run : (job : Job) (ws : List Watcher) (text : List ℕ) (o : Outcome) → (IsAnEnd o → ⊥)
    → ((facts : Facts) (i : Instance) (pops : ℕ) → IsPausedAt job text facts i pops o → ⊥)
    → ComesOfRun job ws text o → ⊥
no_run job ws text o unended unpaused h = elim h.run [
  | inl end ↦ unended (is_end job.command (asked_by job) ws h.facts h.instance o end)
  | inr p ↦ unpaused h.facts h.instance p.pops p.at
]

-- neither is a replay
pub no_replay : (job : Job) (ws : List Watcher) (text : List ℕ) (i : Instance) (c : List ℕ) (n : ℕ) (look : Look)
    → ComesOf job ws text (Replayed i c n look) → ⊥
no_replay job ws text i c n look h =
    no_run job ws text (Replayed i c n look) (λ end. end) (λ facts j pops at. at) h

-- the run of what a job makes comes of the job: it is told neither as a refusal nor as a verdict
pub run_comes : (job : Job) (ws : List Watcher) (text : List ℕ) (o : Outcome) → ComesOfRun job ws text o
    → ComesOf job ws text o
run_comes job ws text (Refused r) h = absurd (no_run job ws text (Refused r) (λ end. end) (λ facts i pops at. at) h)
run_comes job ws text (Extremal n) h = absurd (no_run job ws text (Extremal n) (λ end. end) (λ facts i pops at. at) h)
run_comes job ws text o h = h

-- it ends, where no pause is told
pub run_ends : (job : Job) (ws : List Watcher) (text : List ℕ) (o : Outcome) (h : ComesOfRun job ws text o)
    → ((pops : ℕ) → IsPausedAt job text h.facts h.instance pops o → ⊥)
    → EndsAs job.command (asked_by job) ws h.facts h.instance o
run_ends job ws text o h unpaused = elim h.run [
  | inl end ↦ end
  | inr p ↦ absurd (unpaused p.pops p.at)
]

-- what tells a pause is one
same_pause : (told job : Job) (read input : List ℕ) (also facts : Facts) (j i : Instance) (placed : List Placed)
    → told ≡ job → read ≡ input → also ≡ facts → j ≡ i → Paused told read also j placed ≡ Paused job input facts i placed
same_pause told job read input also facts j i placed told_is read_is also_is j_is =
    rw (told_is, read_is, also_is, j_is) refl

pub paused_as : (job : Job) (input : List ℕ) (facts : Facts) (i : Instance) (pops : ℕ) (o : Outcome)
    → IsPausedAt job input facts i pops o
    → (placed : List Placed) × (o ≡ Paused job input facts i placed) × IsPause i pops placed
paused_as job input facts i pops (Paused told read also j placed) (told_is, read_is, also_is, j_is, pause) = (
  placed,
  same_pause told job read input also facts j i placed told_is read_is also_is j_is,
  pause,
)
paused_as job input facts i pops o h = absurd h

-- no end is told as a pause
pub pause_no_end : (k : Command) (asked : Asked) (ws : List Watcher) (facts : Facts) (i : Instance) (job : Job)
    (input : List ℕ) (told : Facts) (j : Instance) (placed : List Placed)
    → EndsAs k asked ws facts i (Paused job input told j placed) → ⊥
pause_no_end k asked ws facts i job input told j placed h =
    is_end k asked ws facts i (Paused job input told j placed) h

-- an end of one thread's run, and a batch, are told of commands whose pops have one order
pub ended_as : (k : Command) (asked : Asked) (ws : List Watcher) (facts : Facts) (i : Instance) (t : Facts) (j : Instance)
    (c : List ℕ) (n : ℕ) (s : List Event) (a : Telling) → EndsAs k asked ws facts i (Ended t j c n s a)
    → IsEndOf asked ws facts i (Ended t j c n s a)
ended_as Resample asked ws facts i t j c n s a h = absurd h
ended_as Rounds asked ws facts i t j c n s a h = absurd h
ended_as k asked ws facts i t j c n s a h = h

pub batched_as : (k : Command) (asked : Asked) (ws : List Watcher) (facts : Facts) (i : Instance) (t : Facts)
    (j : Instance) (es : List End) → EndsAs k asked ws facts i (Batched t j es)
    → IsEndOf asked ws facts i (Batched t j es)
batched_as Resample asked ws facts i t j es h = absurd h
batched_as Rounds asked ws facts i t j es h = absurd h
batched_as k asked ws facts i t j es h = h

-- a history is told of a resampling alone
pub resampled_as : (k : Command) (asked : Asked) (ws : List Watcher) (facts : Facts) (i : Instance) (t : Facts)
    (j : Instance) (l : List Placed) (s : List Event) (a : Telling) → EndsAs k asked ws facts i (Resampled t j l s a)
    → (k ≡ Resample) × IsHistoryOf asked ws facts i (Resampled t j l s a)
resampled_as Resample asked ws facts i t j l s a h = (refl, h)
resampled_as Rounds asked ws facts i t j l s a h = absurd h
resampled_as k asked ws facts i t j l s a h = absurd h

-- and an end of rounds of these alone
pub rounded_as : (k : Command) (asked : Asked) (ws : List Watcher) (facts : Facts) (i : Instance) (t : Facts)
    (j : Instance) (c : List ℕ) (n : ℕ) (s : List Event) (v : Option ℕ) → EndsAs k asked ws facts i (Rounded t j c n s v)
    → (k ≡ Rounds) × IsRoundsEndOf facts i (Rounded t j c n s v)
rounded_as Resample asked ws facts i t j c n s v h = absurd h
rounded_as Rounds asked ws facts i t j c n s v h = (refl, h)
rounded_as k asked ws facts i t j c n s v h = absurd h
