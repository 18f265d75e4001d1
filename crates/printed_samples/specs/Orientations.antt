-- Orientations of a graph, in terms of the printed arrows.
use Rattle.std.specs.Prelude.{◌≡◌, ℕ, ◌+◌, List, ◌++◌, length, map, slice_index, codes, All, Contains}
use Rattle.std.specs.List.{enumerate_from, range_with_len}
use Rattle.pop_model.specs.Text.{line}
use Rattle.graph_read.specs.Graphs.{GraphOf, IsVertex}
use Rattle.printed_samples.specs.Arrows.{Arrow, lines_of, IsAlong, oriented}

-- the arrow of each edge, by its value
abbrev pub arrows_by : GraphOf → List ℕ → List Arrow
arrows_by g values =
    map (λ p. oriented p.1 (p.0 + 1) (slice_index values p.0)) (enumerate_from 0 g.edges)

-- an arrow leaves the vertex
abbrev pub IsLeft : List Arrow → ℕ → Type 0
IsLeft arrows w = Contains (map (λ a. a.tail) arrows) w

-- an arrow for each edge of the graph, along it, in the order of the graph
pub record IsOrientation (g : GraphOf) (arrows : List Arrow) : Type 0 where
  pub numbers : map (λ a. a.number) arrows ≡ range_with_len 1 (length g.edges)
  pub along : All (IsAlong g) arrows

-- The text begins with a sample of the graph: the lines of an orientation in which an arrow leaves
-- each vertex. The arrow of a self-loop leaves its vertex.
pub record ShowsOrientation (g : GraphOf) (out : List ℕ) : Type 0 where
  pub arrows : List Arrow
  pub rest : List ℕ
  pub out_is : out ≡ (line (codes "s SAMPLE") ++ lines_of arrows) ++ rest
  pub orientation : IsOrientation g arrows
  pub leaves : (w : ℕ) → IsVertex g.vertices w → IsLeft arrows w
