-- The printed names of variables.
use Rattle.std.specs.Prelude.{ℕ, ◌+◌, ltb, if◌then◌else◌}

-- the vertex of a variable of a tree: the variables are the vertices without the root, rising;
-- vertices count from 1, variables from 0
abbrev pub vertex_of : ℕ → ℕ → ℕ
vertex_of root v = if ltb (v + 1) root then v + 1 else v + 2
