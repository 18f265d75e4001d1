-- A list of units that still have to be judged.
use Rattle.std.specs.Prelude.{◌≡◌, ℕ, ◌<◌, Bool, true, List, [], ◌∷◌, ◌++◌, length, slice_get, slice_index_or, Some, All, Contains}
use Rattle.pop_model.specs.Popping.{Cube}

-- the number of units, and the units in the list
pub record Waiting : Type 0 where
  pub units : ℕ
  pub list : List ℕ

-- each unit in the list has a mark, and each mark is that of a unit in the list
pub record AreMarked (list : List ℕ) (marks : List Bool) : Type 0 where
  pub known : All (λ u. u < length marks) list
  pub waits : (u : ℕ) → slice_get marks u ≡ Some true → Contains list u

-- a unit is removed from the list
pub record Gives (old new : Waiting) (unit : ℕ) : Type 0 where
  pub known : unit < old.units
  pub units : new.units ≡ old.units
  pub list : old.list ≡ new.list ++ unit ∷ []

-- the list has these units, too
pub record Gains (old new : Waiting) (more : List ℕ) : Type 0 where
  pub units : new.units ≡ old.units
  pub kept : (u : ℕ) → Contains old.list u → Contains new.list u
  pub gained : All (Contains new.list) more

-- the list also has the units that the index gives for the variables of the cube
pub record GainsSharing (old new : Waiting) (index : List (List ℕ)) (e : Cube) : Type 0 where
  pub units : new.units ≡ old.units
  pub kept : (u : ℕ) → Contains old.list u → Contains new.list u
  pub gained : All (λ p. All (Contains new.list) (slice_index_or index p.0 [])) e
