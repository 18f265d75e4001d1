-- The bytes of an answer determine the log that it shows.
use Rattle.std.specs.Prelude.{◌≡◌, ℕ, List, Option}
use Rattle.pop_model.specs.Instances.{Instance}
use Rattle.pop_log.specs.Layers.{Placed}
use Rattle.pop_watch.specs.Telling.{Watcher}
use Rattle.told_runs.specs.Outcomes.{Outcome, AnswersBy}
use Rattle.told_runs.specs.Outcomes.Outcome.{Paused}
use Rattle.top_call.specs.Answers.{IsOutcome}
use Rattle.answer_laws.specs.Laws.{IsAnswerShowing}

-- If answers to arguments, watchers and an input are the same bytes, they show one log: the same
-- records in the same order, with the same layers. An answer of `resample` shows the log of its
-- run.
abbrev pub OneShownLog : Type 0
OneShownLog = (words : List (List ℕ)) (watchers : List Watcher) (text : List ℕ)
    (log another : Option (List Placed)) (status other : ℕ) (out : List ℕ)
    → IsAnswerShowing words watchers text log status out
    → IsAnswerShowing words watchers text another other out → log ≡ another

-- a run of this instance stopped after these records, in layers
abbrev pub StopsBehind : Instance → List Placed → Outcome → Type 0
StopsBehind i placed (Paused job input facts j stopped) = (j ≡ i) × (stopped ≡ placed)
StopsBehind i placed o = ⊥

-- the answer to the arguments and the input is the certificate of such a run
abbrev pub IsCertificateOf : List (List ℕ) → List Watcher → List ℕ → Instance → List Placed → ℕ
    → List ℕ → Type 0
IsCertificateOf words watchers text i placed status out =
    AnswersBy (λ o. IsOutcome words watchers text o × StopsBehind i placed o) status out

-- the input, the instance and the log of two runs that stopped are the same
pub record AreOneRun (text input : List ℕ) (i j : Instance) (placed another : List Placed) : Type 0
  where
    pub same_text : text ≡ input
    pub same_instance : i ≡ j
    pub same_log : placed ≡ another

-- A certificate belongs to one run, whatever the arguments and the input that it answers. This run
-- has one input and one instance, and one log with its length and its replay.
abbrev pub OneStoppedRun : Type 0
OneStoppedRun = (words others : List (List ℕ)) (watchers further : List Watcher)
    (text input : List ℕ) (i j : Instance) (placed another : List Placed) (status other : ℕ)
    (out : List ℕ) → IsCertificateOf words watchers text i placed status out
    → IsCertificateOf others further input j another other out
    → AreOneRun text input i j placed another
