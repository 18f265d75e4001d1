-- The grammar of graphs, without mentioning errors.
use Rattle.std.specs.Prelude.{◌≡◌, ℕ, ◌≤◌, List, [], ◌∷◌, length, Some, codes}
use Rattle.std.specs.List.{AllZip}
use Rattle.pop_edge.specs.Lines.{lines_of, text_limit}
use Rattle.pop_edge.specs.Numbers.{number_of}
use Rattle.graph_read.specs.declared.edge.Edge.{Edge}
use Rattle.graph_read.specs.Graphs.{GraphOf, IsGraph}
use Rattle.graph_read.specs.GraphText.{declared, graph_lines}

-- the tokens of an edge line: `e`, its two ends, and its weight, which is 1 if it is not given
abbrev pub SpellsEdge : List (List ℕ) → Edge → Type 0
SpellsEdge (e ∷ u ∷ v ∷ []) edge =
    (e ≡ codes "e") × (number_of u ≡ Some edge.u) × (number_of v ≡ Some edge.v)
    × (edge.weight ≡ 1)
SpellsEdge (e ∷ u ∷ v ∷ w ∷ []) edge =
    (e ≡ codes "e") × (number_of u ≡ Some edge.u) × (number_of v ≡ Some edge.v)
    × (number_of w ≡ Some edge.weight)
SpellsEdge _ edge = ⊥

-- The input is that of the graph: its header declares the vertices, and each line after it is that
-- of the edge at its place.
pub record IsGraphText (text : List ℕ) (g : GraphOf) : Type 0 where
  pub short : length text ≤ text_limit
  pub header : ℕ × List (List ℕ)
  pub others : List (ℕ × List (List ℕ))
  pub lines : graph_lines (lines_of text) ≡ header ∷ others
  pub declares : declared header.1 ≡ Some g.vertices
  pub edges : AllZip (λ line edge. SpellsEdge line.1 edge) others g.edges
  pub graph : IsGraph g
