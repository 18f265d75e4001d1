-- The variables of a loop of arrows, one after another, and its cycle.
use Rattle.std.specs.Prelude.{◌≡◌, ◌≢◌, ◌↔◌, ℕ, ◌+◌, ◌<◌, List, length, slice_index, All, AllPairs, Contains}
use Rattle.pop_model.specs.Stacks.{height_of}
use Rattle.pop_model.specs.Popping.{Cube, IsCube, cursor}
use Rattle.confluence_core.specs.CycleTables.{CycleTable, current_slot}

-- at least one variable, and all different
pub record AreMembers (t : CycleTable) (members : List ℕ) : Type 0 where
  pub some : 0 < length members
  pub known : All (λ v. v < length t.heads) members
  pub differ : AllPairs (λ v w. v ≢ w) members

-- each of these variables has an entry after its cursor
abbrev pub HaveNext : CycleTable → List ℕ → List ℕ → Type 0
HaveNext t c members = All (λ v. cursor c v + 1 < height_of t.stacks v) members

-- the cube has exactly these variables, each with its current slot
pub record IsCubeOf (t : CycleTable) (c members : List ℕ) (e : Cube) : Type 0 where
  pub cube : IsCube e
  pub exact : (v x : ℕ) → Contains e (v, x) ↔ (Contains members v × (current_slot t c v ≡ x))

-- the cursors of the first n of these variables move on by 1, and the others stay
pub record Raises (members : List ℕ) (n : ℕ) (c new : List ℕ) : Type 0 where
  pub count : length new ≡ length c
  pub raised : (k : ℕ) → k < n
      → cursor new (slice_index members k) ≡ cursor c (slice_index members k) + 1
  pub kept : (v : ℕ) → ((k : ℕ) → k < n → slice_index members k ≢ v) → cursor new v ≡ cursor c v

-- the first n of these variables get this mark, and the others keep theirs
pub record Marks (members : List ℕ) (n mark : ℕ) (marks new : List ℕ) : Type 0 where
  pub count : length new ≡ length marks
  pub marked : (k : ℕ) → k < n → slice_index new (slice_index members k) ≡ mark
  pub kept : (v : ℕ) → ((k : ℕ) → k < n → slice_index members k ≢ v)
      → slice_index new v ≡ slice_index marks v
