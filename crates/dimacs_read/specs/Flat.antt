-- Clauses one after another in one list.
use Rattle.std.specs.Prelude.{ℕ, ◌≤◌, ℤ, List, [], ◌∷◌, slice_range}

-- the parts of a list that end at these places; the first part begins at the given place
abbrev pub parts : List ℤ → ℕ → List ℕ → List (List ℤ)
parts literals at [] = []
parts literals at (end ∷ ends) = slice_range literals at end ∷ parts literals end ends

-- the ends rise, from a place on up to a last one
abbrev pub Rises : ℕ → List ℕ → ℕ → Type 0
Rises at [] last = at ≤ last
Rises at (end ∷ ends) last = (at ≤ end) × Rises end ends last
