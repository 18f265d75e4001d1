-- Sink-free orientations of a graph. Edge i is variable i, and its value is its direction. The
-- event of a vertex is that all its edges point to it (sink-free orientations: Guo, Jerrum and Liu
-- 2019, after Bubley and Dyer 1997).
use Rattle.std.specs.Prelude.{◌≡◌, ◌↔◌, ℕ, Bool, true, false, ◌&&◌, ◌==◌, if◌then◌else◌, List, map, slice_get, Some, All, Contains, ⊤}
use Rattle.std.specs.List.{list_any}
use Rattle.std.specs.List.Sorted.{IsStrictlyIncreasing}
use Rattle.pop_model.specs.Popping.{Cube, IsCube}
use Rattle.pop_model.specs.Places.{IsLeast}
use Rattle.graph_read.specs.declared.edge.Edge.{Edge}
use Rattle.graph_read.specs.Graphs.{GraphOf, IsVertex}
use Rattle.graph_read.specs.Incidence.{is_loop, touches}
use Rattle.sink_popping.specs.declared.sink_fault.SinkFault.{SinkFault}
use Rattle.sink_popping.specs.declared.sink_fault.SinkFault.TheVariants.{Isolated, OutOfMemory}

-- the value for which an edge points to one of its ends: 0 points from u to v, and 1 from v to u
abbrev pub pointing_to : Edge → ℕ → ℕ
pointing_to e w = if e.v == w then 0 else 1

-- edge i is at the vertex, and points to it with the value x
pub record PointsTo (g : GraphOf) (w i x : ℕ) : Type 0 where
  pub edge : Edge
  pub edge_is : slice_get g.edges i ≡ Some edge
  pub touches_it : touches edge w ≡ true
  pub value : x ≡ pointing_to edge w

-- the cube has exactly the edges at the vertex, each with the value for which it points there
pub record IsSinkCube (g : GraphOf) (w : ℕ) (e : Cube) : Type 0 where
  pub cube : IsCube e
  pub exact : (i x : ℕ) → Contains e (i, x) ↔ PointsTo g w i x

-- some edge at the vertex is a self-loop
abbrev pub has_loop : GraphOf → ℕ → Bool
has_loop g w = list_any (λ e. is_loop e && touches e w) g.edges

-- The vertex can be a sink, and is one if this cube occurs. A vertex with a self-loop never is: a
-- self-loop also points away from its vertex.
pub record HasSink (g : GraphOf) (w : ℕ) (e : Cube) : Type 0 where
  pub vertex : IsVertex g.vertices w
  pub no_loop : has_loop g w ≡ false
  pub sink : IsSinkCube g w e

-- each vertex that can be a sink, with its cube, by rising number
pub record AreSinksOf (g : GraphOf) (rows : List (ℕ × Cube)) : Type 0 where
  pub rising : IsStrictlyIncreasing (map (λ r. r.0) rows)
  pub exact : (w : ℕ) (e : Cube) → Contains rows (w, e) ↔ HasSink g w e

-- the vertex has no edges, so it is a sink in every orientation
pub record IsIsolated (g : GraphOf) (w : ℕ) : Type 0 where
  pub vertex : IsVertex g.vertices w
  pub untouched : All (λ e. touches e w ≡ false) g.edges

-- why a graph is rejected: the lowest isolated vertex; memory may run out at any place
abbrev pub IsSinkFault : GraphOf → SinkFault → Type 0
IsSinkFault g (Isolated w) = IsLeast (IsIsolated g) w
IsSinkFault g OutOfMemory = ⊤
