-- What a pass gained between two moments. In this file d is its view before, and e its view after.
use Rattle.std.specs.Prelude.{◌≡◌, ℕ, ◌<◌, ◌≤◌, ⊤, List, [], ◌∷◌, ◌++◌, drop, length}
use Rattle.claim_words.specs.Words.{word_of}
use Rattle.claim_words.specs.Maps.{Pairs, In, times}
use Rattle.claim_words.specs.Steps.{Drawn}
use Rattle.claim_words.specs.Answers.{Answers}
use Rattle.claim_words.specs.declared.view.View.{View}
use Rattle.claim_words.specs.declared.claim.Claim.{Claim}

-- what was added at the end of `seen`: the indexes of the words, and the words found
abbrev pub gained : View → View → Pairs
gained d e = drop (length d.seen) e.seen

-- `seen` grew at its end, by at most n entries for each word
pub record SeesWithin (n : ℕ) (d e : View) : Type 0 where
  pub added : Pairs
  pub seen : e.seen ≡ d.seen ++ added
  pub within : (i : ℕ) → times i added ≤ n

-- one of these entries is that of a claim of v, and its word gives this result
abbrev pub Entered : Pairs → ℕ → Claim → Type 0
Entered entries v answer = (w : ℕ) × In (word_of v, w) entries × Answers w answer

-- what a finder leaves unchanged
pub record Stays (d e : View) : Type 0 where
  pub share : e.share ≡ d.share
  pub moves : e.moves ≡ d.moves
  pub taken : e.taken ≡ d.taken
  pub owed : e.owed ≡ d.owed
  pub changes : e.changes ≡ d.changes

-- each of these tickets is higher than all before it
abbrev pub Rises : List Drawn → List Drawn → Type 0
Rises before [] = ⊤
Rises before (r ∷ later) =
    ((q : Drawn) → In q before → q.0 < r.0) × Rises (before ++ r ∷ []) later
