-- The relation between the grammar and the errors, and theorems about paths.
use Rattle.std.specs.Prelude.{◌≡◌, ◌↔◌, ℕ, List, None}
use Rattle.graph_read.specs.Graphs.{GraphOf}
use Rattle.graph_read.specs.GraphText.{graph_refusal, graph_of}
use Rattle.graph_read.specs.Grammar.{IsGraphText}
use Rattle.graph_read.specs.Grids.{IsSide, grid_of}
use Rattle.graph_read.specs.Paths.{IsConnected, IsJoined}

-- an input is that of a graph exactly if it has no error, and the graph is the one that it denotes
abbrev pub AcceptsExactly : Type 0
AcceptsExactly =
    (text : List ℕ) (g : GraphOf)
    → IsGraphText text g ↔ ((graph_refusal text ≡ None) × (g ≡ graph_of text))

-- an input denotes at most one graph
abbrev pub HasOneGraph : Type 0
HasOneGraph = (text : List ℕ) (g h : GraphOf) → IsGraphText text g → IsGraphText text h → g ≡ h

-- paths lead both ways
abbrev pub JoinedBothWays : Type 0
JoinedBothWays = (g : GraphOf) (a b : ℕ) → IsJoined g a b → IsJoined g b a

-- in a grid each vertex is joined to the first
abbrev pub GridConnected : Type 0
GridConnected = (side : ℕ) → IsSide side → IsConnected (grid_of side) 1
