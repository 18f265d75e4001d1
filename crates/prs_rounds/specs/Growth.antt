-- The state of the search for the resampling set.
use Rattle.std.specs.Prelude.{◌≡◌, ◌≢◌, ◌⊎◌, ◌↔◌, ℕ, ◌+◌, ◌<◌, ◌≤◌, Bool, true, false, not, List, [], length, ◌∷◌, ◌++◌, slice_index, slice_index_or, slice_set, count_by, All, AllPairs, Contains}
use Rattle.pop_model.specs.Popping.{Cube, names}
use Rattle.pop_instance.specs.Events.{cube_at}
use Rattle.prs_rounds.specs.declared.mark.Mark.{Mark}
use Rattle.prs_rounds.specs.declared.mark.Mark.TheVariants.{Free, Joined, Excluded}
use Rattle.prs_rounds.specs.declared.growth.Growth.{Growth}

-- the mark of an event
abbrev pub mark_of : Growth → ℕ → Mark
mark_of g u = slice_index_or g.marks.items u Free

-- whether the mark is that of an event of the set
abbrev pub is_joined : Mark → Bool
is_joined Free = false
is_joined Joined = true
is_joined Excluded = false

-- whether an event of the set names the variable
abbrev pub is_covered : Growth → ℕ → Bool
is_covered g v = slice_index_or g.covered.items v false

-- the number of variables that are not covered
abbrev pub uncovered : Growth → ℕ
uncovered g = count_by not g.covered.items

-- the fresh events after an event got a mark
abbrev pub fresh_after : Mark → ℕ → List ℕ → List ℕ
fresh_after Free u fresh = fresh
fresh_after Joined u fresh = fresh ++ u ∷ []
fresh_after Excluded u fresh = fresh

-- There is a mark for each of n events and a flag for each variable. The marked events and the
-- covered variables are listed, and the fresh events have joined.
pub record AreListed (n count : ℕ) (g : Growth) : Type 0 where
  pub marks : length g.marks.items ≡ n
  pub covered : length g.covered.items ≡ count
  pub known_events : All (λ u. u < n) g.looked.items
  pub known_fresh : All (λ u. u < n) g.fresh.items
  pub known_variables : All (λ v. v < count) g.variables.items
  pub looked : (u : ℕ) → mark_of g u ≢ Free → Contains g.looked.items u
  pub joined : (u : ℕ) → Contains g.fresh.items u → mark_of g u ≡ Joined
  pub variables : (v : ℕ) → is_covered g v ≡ true → Contains g.variables.items v
  pub differ : AllPairs (λ v w. v ≢ w) g.variables.items
  pub are_covered : (v : ℕ) → Contains g.variables.items v → is_covered g v ≡ true

-- the cube names a covered variable
abbrev pub Meets : Growth → Cube → Type 0
Meets g e = (p : ℕ × ℕ) × Contains e p × (is_covered g p.0 ≡ true)

-- a covered variable has another value than the cube demands
abbrev pub MeetsOther : List ℕ → Growth → Cube → Type 0
MeetsOther values g e = (p : ℕ × ℕ) × Contains e p × (is_covered g p.0 ≡ true)
    × (slice_index values p.0 ≢ p.1)

-- an event gets a mark, and joins the fresh ones or not; everything else stays
pub record IsMarked (u : ℕ) (m : Mark) (old new : Growth) : Type 0 where
  pub marks : new.marks.items ≡ slice_set old.marks.items u m
  pub looked : new.looked.items ≡ old.looked.items ++ u ∷ []
  pub fresh : new.fresh.items ≡ fresh_after m u old.fresh.items
  pub covered : new.covered ≡ old.covered
  pub variables : new.variables ≡ old.variables

-- another variable is covered, and everything else stays
pub record IsCoveredToo (v : ℕ) (old new : Growth) : Type 0 where
  pub covered : new.covered.items ≡ slice_set old.covered.items v true
  pub variables : new.variables.items ≡ old.variables.items ++ v ∷ []
  pub marks : new.marks ≡ old.marks
  pub looked : new.looked ≡ old.looked
  pub fresh : new.fresh ≡ old.fresh

-- the variable is covered, as before or newly
abbrev pub CoversOne : ℕ → Growth → Growth → Type 0
CoversOne v old new = ((is_covered old v ≡ true) × (new ≡ old))
    ⊎ ((is_covered old v ≡ false) × IsCoveredToo v old new)

-- the mark of an event that is judged
abbrev pub IsVerdict : List ℕ → Growth → Cube → Mark → Type 0
IsVerdict values g e Free = ⊥
IsVerdict values g e Joined = Meets g e × (MeetsOther values g e → ⊥)
IsVerdict values g e Excluded = Meets g e × MeetsOther values g e

-- Some events that were free are judged, by the covered variables; those that join are fresh.
-- Everything else stays.
pub record Judges (rows : List (ℕ × Cube)) (values : List ℕ) (old new : Growth) : Type 0 where
  pub covered : new.covered ≡ old.covered
  pub variables : new.variables ≡ old.variables
  pub kept : (u : ℕ) → mark_of old u ≢ Free → mark_of new u ≡ mark_of old u
  pub right : (u : ℕ) → mark_of old u ≡ Free → mark_of new u ≢ Free
      → IsVerdict values old (cube_at rows u) (mark_of new u)
  pub fresh : (u : ℕ) → mark_of old u ≡ Free → mark_of new u ≡ Joined → Contains new.fresh.items u
  pub fresh_kept : (u : ℕ) → Contains old.fresh.items u → Contains new.fresh.items u

-- the events of these places are judged
abbrev pub AreJudged : Growth → List ℕ → Type 0
AreJudged g places = All (λ u. mark_of g u ≢ Free) places

-- the variables with this property are covered, too; marks stay
pub record CoversMore (Is : ℕ → Type 0) (old new : Growth) : Type 0 where
  pub marks : new.marks ≡ old.marks
  pub looked : new.looked ≡ old.looked
  pub kept : (v : ℕ) → is_covered old v ≡ true → is_covered new v ≡ true
  pub gained : (v : ℕ) → Is v → is_covered new v ≡ true
  pub only : (v : ℕ) → is_covered new v ≡ true → (is_covered old v ≡ true) ⊎ Is v
  pub place : (k : ℕ) → k < length old.variables.items
      → slice_index new.variables.items k ≡ slice_index old.variables.items k
  pub size : uncovered new + length new.variables.items
      ≡ uncovered old + length old.variables.items
  pub long : length old.variables.items ≤ length new.variables.items

-- some event of these places names the variable
abbrev pub IsNamedBy : List (ℕ × Cube) → List ℕ → ℕ → Type 0
IsNamedBy rows places v = (u : ℕ) × Contains places u × (names (cube_at rows u) v ≡ true)

-- the events of these places have joined and are fresh, and no other event is marked
pub record AreJoined (places : List ℕ) (g : Growth) : Type 0 where
  pub joined : All (λ u. mark_of g u ≡ Joined) places
  pub only : (u : ℕ) → mark_of g u ≢ Free → Contains places u
  pub fresh : (u : ℕ) → mark_of g u ≢ Free → Contains g.fresh.items u

-- the events of these places have joined, no other event is marked, and exactly their variables
-- are covered
pub record Begins (rows : List (ℕ × Cube)) (places : List ℕ) (g : Growth) : Type 0 where
  pub joined : All (λ u. mark_of g u ≡ Joined) places
  pub only : (u : ℕ) → mark_of g u ≢ Free → Contains places u
  pub covered : (v : ℕ) → is_covered g v ≡ true ↔ IsNamedBy rows places v

-- no event is marked and no variable is covered
pub record IsBlank (n count : ℕ) (g : Growth) : Type 0 where
  pub marks : length g.marks.items ≡ n
  pub covered : length g.covered.items ≡ count
  pub free : (u : ℕ) → mark_of g u ≡ Free
  pub none : (v : ℕ) → is_covered g v ≡ false
  pub looked : g.looked.items ≡ []
  pub fresh : g.fresh.items ≡ []
  pub variables : g.variables.items ≡ []
