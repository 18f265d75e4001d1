-- The log that the tickets of a pass form if it is the only one.
use Rattle.std.specs.Prelude.{◌≡◌, ℕ, zero, suc, ◌+◌, ◌<◌, List, [], ◌∷◌, ◌++◌, length, cond, ◌==◌}
use Rattle.pop_model.specs.Popping.{cursor}
use Rattle.pop_model.specs.Logs.{LogRecord, IsLegal, replay}
use Rattle.claim_words.specs.Maps.{total, In, below}
use Rattle.claim_words.specs.Openings.{count, height, begun}
use Rattle.claim_words.specs.Steps.{Drawn}
use Rattle.claim_words.specs.Machine.{Use, uses, used, IsPopped}
use Rattle.claim_words.specs.declared.opening.Opening.{Opening}

-- The whole history of a board is that of one pass. It has the tickets below t and, for each
-- variable, the entries from the start up to, but without, c.
pub record Whole (k : Opening) (mine : List Drawn) (t : ℕ) (c : ℕ → ℕ) : Type 0 where
  pub tickets : (f : ℕ → ℕ) → total (λ r. f r.0) mine ≡ below f t
  pub entries : (v : ℕ) → v < count k → (f : ℕ → ℕ)
      → total (λ r. used f v (uses r.1)) mine + below f (begun k v) ≡ below f (c v)
  pub popped : (r : Drawn) → In r mine → IsPopped k r.1
  pub order : (r q : Drawn) → In r mine → In q mine → (e g : Use) → In e (uses r.1)
      → In g (uses q.1) → e.0 ≡ g.0 → e.2 < g.2 → r.0 < q.0
  pub low : (v : ℕ) → v < count k → c v < height k v

-- the record of ticket i
abbrev pub find : ℕ → List Drawn → LogRecord
find i [] = record { event = record { unit = 0; cube = [] }; entries = [] }
find i (x ∷ xs) = cond (x.0 == i) x.1 (find i xs)

-- the records of the tickets below n, in their order
abbrev pub log_below : List Drawn → ℕ → List LogRecord
log_below mine zero = []
log_below mine (suc n) = log_below mine n ++ find n mine ∷ []

-- the records of a pass that has the tickets from 0 on, in their order
abbrev pub log_of : List Drawn → List LogRecord
log_of mine = log_below mine (length mine)

-- in the order of their tickets the records are a legal log from the start
abbrev pub IsLegalFrom : Opening → List Drawn → Type 0
IsLegalFrom k mine = IsLegal k.instance.value k.start.value (log_of mine)

-- the vector of a pass that is the only one: the replay of its records from the start, in the
-- order of their tickets
abbrev pub vector : Opening → List Drawn → List ℕ
vector k mine = replay k.start.value (log_of mine)

-- the records are a legal log from the start, which leads to these cursors
pub record LeadsTo (k : Opening) (mine : List Drawn) (c : ℕ → ℕ) : Type 0 where
  pub legal : IsLegalFrom k mine
  pub cursors : (v : ℕ) → v < count k → cursor (vector k mine) v ≡ c v
