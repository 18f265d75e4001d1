-- Arrows among variables and a root, and the cycles that they make.
use Rattle.std.specs.Option.{option_and_then}
use Rattle.std.specs.Prelude.{◌≡◌, ℕ, zero, suc, ◌<◌, true, ◌==◌, if◌then◌else◌, List, [], ◌∷◌, length, slice_index, slice_index_or, All, Option, None, Some}
use Rattle.pop_model.specs.Stacks.{StackTable, value_at}
use Rattle.pop_model.specs.Popping.{Cube, IsCube, variables, names, cursor}

-- the head of a slot of a variable; None is the root
abbrev pub head_of : List (List (Option ℕ)) → ℕ → ℕ → Option ℕ
head_of heads v x = slice_index_or (slice_index_or heads v []) x None

-- the variable that this many steps lead to from a variable; None if they reached the root
abbrev pub follow : (ℕ → Option ℕ) → ℕ → ℕ → Option ℕ
follow step zero v = Some v
follow step (suc k) v = option_and_then step (follow step k v)

-- the steps reach the root
abbrev pub ReachesRoot : (ℕ → Option ℕ) → ℕ → Type 0
ReachesRoot step v = (k : ℕ) × (follow step k v ≡ None)

-- the value that a cube demands of a variable, if it names the variable
abbrev pub demand : Cube → ℕ → Option ℕ
demand [] v = None
demand (p ∷ e) v = if p.0 == v then Some p.1 else demand e v

-- the head of the slot that the cube demands of a variable
abbrev pub arrow_in : List (List (Option ℕ)) → Cube → ℕ → Option ℕ
arrow_in heads e v = option_and_then (head_of heads v) (demand e v)

-- the head of the current slot of a variable
abbrev pub arrow_at : List (List (Option ℕ)) → StackTable → List ℕ → ℕ → Option ℕ
arrow_at heads s c v = head_of heads v (value_at s v (cursor c v))

-- the first variable of a cube, which is its lowest
abbrev pub first_of : Cube → ℕ
first_of e = slice_index (variables e) 0

-- Following the heads from the first variable returns there after as many steps as the cube has
-- pairs, and passes every variable of the cube (Propp and Wilson 1998).
pub record IsCycle (heads : List (List (Option ℕ))) (e : Cube) : Type 0 where
  pub cube : IsCube e
  pub returns : follow (arrow_in heads e) (length e) (first_of e) ≡ Some (first_of e)
  pub meets : (v : ℕ) → names e v ≡ true
      → (k : ℕ) × (k < length e) × (follow (arrow_in heads e) k (first_of e) ≡ Some v)

-- each variable has a slot, and each head is a variable or the root
pub record AreArrows (heads : List (List (Option ℕ))) : Type 0 where
  pub some : All (λ row. 0 < length row) heads
  pub below : (v x w : ℕ) → head_of heads v x ≡ Some w → w < length heads
