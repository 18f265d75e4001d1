-- Paths between the vertices of a graph.
use Rattle.std.specs.Prelude.{◌≡◌, ℕ, true, List, [], ◌∷◌, Contains, Option, None, Some}
use Rattle.pop_model.specs.Places.{IsLeast}
use Rattle.graph_read.specs.declared.edge.Edge.{Edge}
use Rattle.graph_read.specs.Graphs.{GraphOf, IsVertex}
use Rattle.graph_read.specs.Incidence.{other_end, touches}

-- Edges of the graph lead from one vertex to another, one after another, each from either of its
-- ends. A path may pass a vertex more than once.
abbrev pub IsPath : GraphOf → ℕ → List Edge → ℕ → Type 0
IsPath g a [] b = a ≡ b
IsPath g a (e ∷ path) b =
    Contains g.edges e × (touches e a ≡ true) × IsPath g (other_end e a) path b

-- some path joins the vertices
abbrev pub IsJoined : GraphOf → ℕ → ℕ → Type 0
IsJoined g a b = (path : List Edge) × IsPath g a path b

-- the vertex is not connected to the root: no path joins them
pub record IsCutOff (g : GraphOf) (root w : ℕ) : Type 0 where
  pub vertex : IsVertex g.vertices w
  pub apart : IsJoined g root w → ⊥

-- a path joins each vertex to the root
abbrev pub IsConnected : GraphOf → ℕ → Type 0
IsConnected g root = (w : ℕ) → IsVertex g.vertices w → IsJoined g root w

-- what a search from the root finds: the lowest vertex that is not connected to it, or None if all
-- are
abbrev pub IsFirstCutOff : GraphOf → ℕ → Option ℕ → Type 0
IsFirstCutOff g root None = IsConnected g root
IsFirstCutOff g root (Some w) = IsLeast (IsCutOff g root) w
