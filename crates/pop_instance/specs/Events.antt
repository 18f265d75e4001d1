-- Numbered cubes by their places.
use Rattle.std.specs.Prelude.{ℕ, ◌<◌, List, [], slice_index_or, All, Contains}
use Rattle.pop_model.specs.Popping.{Cube}

-- the number of the event at a place
abbrev pub event_number : List (ℕ × Cube) → ℕ → ℕ
event_number rows place = (slice_index_or rows place (0, [])).0

-- the cube of the event at a place
abbrev pub cube_at : List (ℕ × Cube) → ℕ → Cube
cube_at rows place = (slice_index_or rows place (0, [])).1

-- the list has the cube, under some number
abbrev pub HasCube : List (ℕ × Cube) → Cube → Type 0
HasCube rows e = (number : ℕ) × Contains rows (number, e)

-- each cube demands 0 or 1 of some of n variables
abbrev pub FitVariables : ℕ → List (ℕ × Cube) → Type 0
FitVariables n rows = All (λ r. All (λ p. (p.0 < n) × (p.1 < 2)) r.1) rows
