-- The results of walks.
use Rattle.std.specs.Prelude.{◌≡◌, ◌≢◌, ◌⊎◌, ◌↔◌, ⊤, true, ℕ, ◌+◌, ◌<◌, ◌≤◌, ◌^◌, List, [], ◌∷◌, ◌++◌, length, map, slice_index}
use Rattle.pop_model.specs.Popping.{variables, names}
use Rattle.pop_model.specs.Families.{IsEvent}
use Rattle.pop_model.specs.Logs.{LogRecord}
use Rattle.claim_words.specs.Words.{word_of, cursor_in, settled_bit}
use Rattle.claim_words.specs.Maps.{Pairs, Each, In, look}
use Rattle.claim_words.specs.Steps.{Drawn}
use Rattle.claim_words.specs.Tells.{SoleKnows}
use Rattle.claim_words.specs.declared.opening.Opening.{Opening}
use Rattle.claim_words.specs.declared.view.View.{View}
use Rattle.event_finders.specs.declared.tried.Tried.{Tried}
use Rattle.event_finders.specs.declared.tried.Tried.TheVariants.{Popped, Cleared, Stuck, Busy, Idle, OutOfMemory}
use Rattle.event_finders.specs.Gains.{Rises}
use Rattle.event_finders.specs.Trails.{stand, last_of, Goes, Led}

-- variables that were known to be settled are still known
abbrev pub KeepsKnown : View → View → Type 0
KeepsKnown d e = (p : ℕ × ℕ) → In p d.settled → In p e.settled

-- a word that is claimed and not settled
abbrev pub IsBusy : ℕ → Type 0
IsBusy w = (2 ^ 63 ≤ w) × (settled_bit w ≡ 0)

-- A claim found the word of this variable free, as an entry of what was seen shows. The cursor is
-- the one found, or at most n higher.
abbrev pub IsClaimed : ℕ → Pairs → ℕ × ℕ → Type 0
IsClaimed n added e = (w : ℕ) × In (word_of e.0, w) added × (w < 2 ^ 63)
    × (cursor_in w ≤ e.1) × (e.1 ≤ cursor_in w + n)

-- each variable of the path was claimed in between, and popped at most n times since
pub record Traced (n : ℕ) (d e : View) (path : Pairs) : Type 0 where
  pub added : Pairs
  pub seen : e.seen ≡ d.seen ++ added
  pub claimed : (j : ℕ) → j < length path → IsClaimed n added (stand path j)

-- each variable of the path was claimed in between and popped at most n times since, and a claim
-- of v after that found w
pub record TracedTo (n : ℕ) (d e : View) (path : Pairs) (v w : ℕ) : Type 0 where
  pub added : Pairs
  pub seen : e.seen ≡ d.seen ++ (added ++ (word_of v, w) ∷ [])
  pub claimed : (j : ℕ) → j < length path → IsClaimed n added (stand path j)

-- The arrows lead from the start, along variables that were claimed in between, to v, and the
-- claim of v found w.
pub record Reaches (k : Opening) (n : ℕ) (d e : View) (start v w : ℕ) : Type 0 where
  pub path : Pairs
  pub led : Led k path
  pub some : 0 < length path
  pub begins : slice_index (variables path) 0 ≡ start
  pub goes : Goes k (last_of path) v
  pub traced : TracedTo n d e path v w

-- the claim of v found w, and either v is the start or fewer than this many pops were made
abbrev pub Meets : Opening → View → View → ℕ → ℕ → ℕ → ℕ → Type 0
Meets k d e pops start v w = ((v ≡ start) × (e.seen ≡ d.seen ++ (word_of v, w) ∷ []))
    ⊎ ((n : ℕ) × (n < pops) × Reaches k n d e start v w)

-- The record is that of the cycle of a path from a place on. Its event has exactly the variables
-- at these places, and its entries are their cursors.
pub record IsLoop (path : Pairs) (place : ℕ) (r : LogRecord) : Type 0 where
  pub members : (v : ℕ) → (names r.event.cube v ≡ true)
      ↔ ((j : ℕ) × (place ≤ j) × (j < length path) × (slice_index (variables path) j ≡ v))
  pub entries : r.entries ≡ map (λ p. look p.0 path) r.event.cube

-- The arrows lead from the start, along variables that were claimed in between, back to a place of
-- this path. The record is that of the cycle that they close.
pub record Closes (k : Opening) (n : ℕ) (d e : View) (start : ℕ) (r : LogRecord) : Type 0 where
  pub path : Pairs
  pub led : Led k path
  pub begins : slice_index (variables path) 0 ≡ start
  pub traced : Traced n d e path
  pub place : ℕ
  pub within : place < length path
  pub goes : Goes k (last_of path) (slice_index (variables path) place)
  pub loop : IsLoop path place r

-- each of these records, with n records before them, is that of a cycle that a path from the start
-- closed
abbrev pub CloseAll : Opening → ℕ → View → View → ℕ → List Drawn → Type 0
CloseAll k n d e start [] = ⊤
CloseAll k n d e start (r ∷ later) = Closes k n d e start r.1 × CloseAll k (n + 1) d e start later

-- The pass gained these tickets, each higher than all before it, of events of the family.
pub record GainsTickets (k : Opening) (d e : View) (added : List Drawn) : Type 0 where
  pub mine : e.mine ≡ d.mine ++ added
  pub events : Each (λ r. IsEvent k.instance.value.family r.1.event) added
  pub rise : Rises d.mine added

-- a walk gained as many tickets as were requested, with this one last; or fewer
abbrev pub AreCounted : ℕ → List Drawn → Tried → Type 0
AreCounted pops added (Popped t) = (before : List Drawn) × (r : LogRecord)
    × (added ≡ before ++ (t, r) ∷ []) × (length added ≡ pops)
AreCounted pops added answer = length added < pops

-- the pass popped as many cycles as the result says, and a path from the start closed each of them
abbrev pub PopsCycles : Opening → View → View → ℕ → ℕ → Tried → Type 0
PopsCycles k d e pops start answer = (added : List Drawn) × GainsTickets k d e added
    × AreCounted pops added answer × CloseAll k 0 d e start added

-- What a result says of a walk from the start. If a step was made, a pass that is the only one
-- knows that no cycle that is poppable at its vector has a settled variable. It never gets `Busy`.
abbrev pub IsWalkAnswer : Opening → View → View → ℕ → ℕ → Tried → Type 0
IsWalkAnswer k d e pops start (Popped t) = SoleKnows e
IsWalkAnswer k d e pops start (Cleared v c) = (v ≡ start) × In (v, c) e.settled × SoleKnows e
IsWalkAnswer k d e pops start (Stuck v c) = ⊥
IsWalkAnswer k d e pops start (Busy v w) =
    IsBusy w × Meets k d e pops start v w × (d.share ≢ 64) × SoleKnows e
IsWalkAnswer k d e pops start Idle = ⊥
IsWalkAnswer k d e pops start OutOfMemory = ⊤
