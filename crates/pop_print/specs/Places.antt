-- The slots of a tree's vertices, as places among the edges at each vertex.
use Rattle.std.specs.Prelude.{◌≡◌, ℕ, ◌+◌, ◌-◌, ◌<◌, List, length, slice_index}
use Rattle.pop_model.specs.Names.{vertex_of}

-- each vertex except the root has the value of its variable, counted from 1, at its place
pub record ArePlaces (root : ℕ) (values places : List ℕ) : Type 0 where
  pub count : length places ≡ length values + 1
  pub each : (v : ℕ) → v < length values
      → slice_index places (vertex_of root v - 1) ≡ slice_index values v + 1
