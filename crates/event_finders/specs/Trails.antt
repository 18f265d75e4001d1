-- The path of a walk: the variables that a pass claimed along the arrows, each with its cursor.
use Rattle.std.specs.Prelude.{◌≡◌, ℕ, suc, ◌+◌, ◌-◌, ◌<◌, ◌≤◌, ◌^◌, List, [], length, slice_index, slice_index_or, Some}
use Rattle.pop_model.specs.Popping.{variables}
use Rattle.claim_words.specs.Maps.{Pairs, times_in}
use Rattle.claim_words.specs.Openings.{count, height, head_at}
use Rattle.claim_words.specs.declared.opening.Opening.{Opening}
use Rattle.claim_words.specs.declared.view.View.{View}

-- the number of variables of a walker, and the path of its walk
pub record Trail : Type 0 where
  pub count : ℕ
  pub path : Pairs

-- a walker for this many variables between walks
abbrev pub resting : ℕ → Trail
resting n = record { count = n; path = [] }

-- the variable and the cursor at a place of a path
abbrev pub stand : Pairs → ℕ → ℕ × ℕ
stand path j = slice_index_or path j (0, 0)

-- the variable and the cursor at the end of a path
abbrev pub last_of : Pairs → ℕ × ℕ
last_of path = stand path (length path - 1)

-- no variable occurs on the path twice
pub record IsTrail (count : ℕ) (path : Pairs) : Type 0 where
  pub once : (v : ℕ) → times_in v (variables path) ≤ 1
  pub below : (j : ℕ) → j < length path → slice_index (variables path) j < count
  pub short : length path ≤ count

-- the mark of each variable on the path is its place, and there is room for a path of all
-- variables
pub record IsKept (marks : List ℕ) (path : Pairs) (room : ℕ) : Type 0 where
  pub trail : IsTrail (length marks) path
  pub small : length marks < 2 ^ 31
  pub marked : (j : ℕ) → j < length path
      → slice_index marks (slice_index (variables path) j) ≡ j
  pub roomy : length marks ≤ room

-- the variable is one of the board, and its cursor below its height
pub record IsAt (k : Opening) (e : ℕ × ℕ) : Type 0 where
  pub near : e.0 < count k
  pub low : e.1 < height k e.0

-- the variable has an entry after this cursor, and its arrow leads to v
pub record Goes (k : Opening) (e : ℕ × ℕ) (v : ℕ) : Type 0 where
  pub next : e.1 + 1 < height k e.0
  pub head : head_at k e.0 e.1 ≡ Some v

-- the arrows lead along the path
pub record Led (k : Opening) (path : Pairs) : Type 0 where
  pub at : (j : ℕ) → j < length path → IsAt k (stand path j)
  pub on : (j : ℕ) → suc j < length path
      → Goes k (stand path j) (slice_index (variables path) (suc j))

-- a pass holds exactly the variables of the path, and the arrows lead along it
pub record Stands (k : Opening) (d : View) (t : Trail) : Type 0 where
  pub held : d.held ≡ t.path
  pub taken : d.taken ≡ []
  pub owed : d.owed ≡ []
  pub led : Led k t.path
  pub trail : IsTrail t.count t.path
  pub counts : t.count ≡ count k
