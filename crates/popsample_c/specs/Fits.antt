-- A call that is made again with the room that one with too little room told.
use Rattle.std.specs.Prelude.{◌≡◌, ◌≤◌, ℕ, List, length, All, IsUtf8}
use Rattle.joined_words.specs.Joined.{AreJoined}
use Rattle.top_call.specs.Answers.{IsAnswer}
use Rattle.popsample_c.specs.Told.{IsTold, IsTooLong, fresh_watchers}

-- the words in these bytes have one answer to the text
abbrev pub HaveOneAnswer : List ℕ → List ℕ → Type 0
HaveOneAnswer bytes text = (words : List (List ℕ)) → All IsUtf8 words → AreJoined bytes words
    → (status other : ℕ) (out out' : List ℕ) → IsAnswer words fresh_watchers text status out
    → IsAnswer words fresh_watchers text other out' → (status ≡ other) × (out ≡ out')

-- each answer has this many bytes, so there is no room of as many that is too little
pub record Fits (bytes text : List ℕ) (count : ℕ) : Type 0 where
  pub size : (status : ℕ) (out : List ℕ) → IsTold bytes text status out → length out ≡ count
  pub room : (again more : ℕ) → count ≤ again → IsTooLong bytes text again more → ⊥

-- So it is with the length that a call with too little room told, where the words have one answer.
abbrev pub FitsThen : Type 0
FitsThen = (bytes text : List ℕ) (room count : ℕ) → HaveOneAnswer bytes text
    → IsTooLong bytes text room count → Fits bytes text count
