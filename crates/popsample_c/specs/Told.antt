-- What a call returns.
use Rattle.std.specs.Prelude.{◌≡◌, ◌⊎◌, ◌<◌, ℕ, List, [], ◌∷◌, length, replicate, All, IsUtf8}
use Rattle.joined_words.specs.Joined.{AreJoined}
use Rattle.pop_watch.specs.Telling.{Watcher}
use Rattle.top_call.specs.Answers.{IsAnswer}
use Rattle.told_runs.specs.Outcomes.{IsAnswerStatus}

-- a watcher of each kind, in the order of kinds, that received nothing
abbrev pub fresh_watchers : List Watcher
fresh_watchers = (1, 0 ∷ 0 ∷ 0 ∷ []) ∷ (2, replicate 33 0) ∷ (3, 0 ∷ []) ∷ []

-- the status and the output are those of an answer to the input and to the arguments in UTF-8 in
-- these bytes, with three new watchers, one of each kind
pub record IsTold (bytes text : List ℕ) (status : ℕ) (out : List ℕ) : Type 0 where
  pub words : List (List ℕ)
  pub utf8 : All IsUtf8 words
  pub are_words : AreJoined bytes words
  pub answer : IsAnswer words fresh_watchers text status out

-- such an output has this many bytes, and there is room for fewer
pub record IsTooLong (bytes text : List ℕ) (room count : ℕ) : Type 0 where
  pub status : ℕ
  pub out : List ℕ
  pub told : IsTold bytes text status out
  pub count_is : count ≡ length out
  pub long : room < count

-- a status of a call: the status of an answer, or 9, 12 or 13
abbrev pub IsCallStatus : ℕ → Type 0
IsCallStatus status = IsAnswerStatus status ⊎ ((status ≡ 9) ⊎ ((status ≡ 12) ⊎ (status ≡ 13)))
