-- Graphs in arrays: two ends for each edge, which count from 0 there, and a weight for each or none at all.
use Rattle.std.specs.Prelude.{◌≡◌, ◌≢◌, ◌⊎◌, ℕ, ◌+◌, ◌*◌, ◌/◌, ◌%◌, ◌<◌, ◌≤◌, ◌^◌, ◌==◌, if◌then◌else◌, List, length, map, slice_index, All, ⊤}
use Rattle.std.specs.List.{range_with_len}
use Rattle.pop_model.specs.Places.{IsLeast}
use Rattle.graph_read.specs.declared.edge.Edge.{Edge}
use Rattle.graph_read.specs.declared.ends.EndsFault.{EndsFault}
use Rattle.graph_read.specs.declared.ends.EndsFault.TheVariants.{TooManyVertices, OddEnds, TooManyEdges, WeightCount, NoVertex, NoWeight, OutOfMemory}
use Rattle.graph_read.specs.Graphs.{GraphOf}

-- the weight of edge i
abbrev pub weight_in : List ℕ → ℕ → ℕ
weight_in weights i = if length weights == 0 then 1 else slice_index weights i

-- edge i
abbrev pub edge_in : List ℕ → List ℕ → ℕ → Edge
edge_in ends weights i = record {
  u = slice_index ends (2 * i) + 1;
  v = slice_index ends (2 * i + 1) + 1;
  weight = weight_in weights i;
}

-- the graph of n vertices in arrays
abbrev pub graph_in : ℕ → List ℕ → List ℕ → GraphOf
graph_in n ends weights =
    record { vertices = n; edges = map (edge_in ends weights) (range_with_len 0 (length ends / 2)) }

-- the number of vertices is within its limit, and the number of ends is even
pub record HavePairs (n : ℕ) (ends : List ℕ) : Type 0 where
  pub vertices_fit : n ≤ 2 ^ 22
  pub even : length ends % 2 ≡ 0

-- the arrays are as long as those of a graph
pub record HaveShape (n : ℕ) (ends weights : List ℕ) : Type 0 where
  pub pairs : HavePairs n ends
  pub edges_fit : length ends ≤ 2 ^ 24
  pub weights_fit : (length weights ≡ 0) ⊎ (length weights ≡ length ends / 2)

-- why arrays are no graph of n vertices: the first fault in the order of `EndsFault`, at its
-- lowest place
abbrev pub IsEndsFault : ℕ → List ℕ → List ℕ → EndsFault → Type 0
IsEndsFault n ends weights TooManyVertices = 2 ^ 22 < n
IsEndsFault n ends weights OddEnds = (n ≤ 2 ^ 22) × (length ends % 2 ≢ 0)
IsEndsFault n ends weights TooManyEdges = HavePairs n ends × (2 ^ 24 < length ends)
IsEndsFault n ends weights WeightCount =
    HavePairs n ends × (length ends ≤ 2 ^ 24) × (length weights ≢ 0) × (length weights ≢ length ends / 2)
IsEndsFault n ends weights (NoVertex place) =
    HaveShape n ends weights × IsLeast (λ k. (k < length ends) × (n ≤ slice_index ends k)) place
IsEndsFault n ends weights (NoWeight place) =
    HaveShape n ends weights × All (λ w. w < n) ends
    × IsLeast (λ k. (k < length weights) × (slice_index weights k ≡ 0)) place
IsEndsFault n ends weights OutOfMemory = ⊤
