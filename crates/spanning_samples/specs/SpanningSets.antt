-- Spanning trees as sets of edges, with no root and no arrows.
use Rattle.std.specs.Prelude.{◌≡◌, ◌↔◌, ℕ, ◌+◌, ◌*◌, ◌<◌, List, [], ◌∷◌, length, map, slice_index, All, Contains}
use Rattle.std.specs.List.{enumerate_from}
use Rattle.std.specs.List.Sorted.{IsStrictlyIncreasing}
use Rattle.pop_model.specs.Names.{vertex_of}
use Rattle.graph_read.specs.Graphs.{GraphOf, IsGraph, IsVertex, edge_at}
use Rattle.graph_read.specs.Incidence.{edges_at}
use Rattle.graph_read.specs.Paths.{IsJoined}
use Rattle.cycle_popping.specs.Trees.{weights_of_tree}
use Rattle.pop_samples.specs.Weights.{sample_weight}
use Rattle.answer_laws.specs.EverySample.{LeadsToRoot}

-- the graph with only the edges of these numbers, which count from 0
abbrev pub graph_with : GraphOf → List ℕ → GraphOf
graph_with g numbers = record { vertices = g.vertices; edges = map (edge_at g) numbers }

-- The edges with these increasing numbers are a spanning tree of the graph: they are one fewer
-- than its vertices, and connect any two of them.
pub record IsSpanningSet (g : GraphOf) (numbers : List ℕ) : Type 0 where
  pub rising : IsStrictlyIncreasing numbers
  pub known : All (λ i. i < length g.edges) numbers
  pub few : length numbers + 1 ≡ g.vertices
  pub joined : (a b : ℕ) → IsVertex g.vertices a → IsVertex g.vertices b
      → IsJoined (graph_with g numbers) a b

-- the edges of an edge chosen at each vertex except the root, by its place there
abbrev pub chosen_edges : GraphOf → ℕ → List ℕ → List ℕ
chosen_edges g root x =
    map (λ p. slice_index (edges_at g (vertex_of root p.0)) p.1) (enumerate_from 0 x)

-- they are exactly the edges of these numbers
abbrev pub HasEdges : GraphOf → ℕ → List ℕ → List ℕ → Type 0
HasEdges g root x numbers = (i : ℕ) → Contains (chosen_edges g root x) i ↔ Contains numbers i

-- arrows along these edges, to the root: there is exactly one choice of them
pub record IsOneChoice (g : GraphOf) (root : ℕ) (numbers x : List ℕ) : Type 0 where
  pub leads : LeadsToRoot g root x
  pub edges : HasEdges g root x numbers
  pub only : (y : List ℕ) → LeadsToRoot g root y → HasEdges g root y numbers → x ≡ y

-- Each spanning tree, as a set of edges, has exactly one choice of arrows to the root, whatever
-- the root is.
abbrev pub OneTreeEach : Type 0
OneTreeEach = (g : GraphOf) (root : ℕ) (numbers : List ℕ) → IsGraph g → IsVertex g.vertices root
    → IsSpanningSet g numbers → (x : List ℕ) × IsOneChoice g root numbers x

-- Arrows that lead to the root follow the edges of a spanning tree.
abbrev pub EachIsTree : Type 0
EachIsTree = (g : GraphOf) (root : ℕ) (x : List ℕ) → IsGraph g → IsVertex g.vertices root
    → LeadsToRoot g root x → (numbers : List ℕ) × IsSpanningSet g numbers × HasEdges g root x numbers

-- the product of the weights of the edges
abbrev pub edges_weight : GraphOf → List ℕ → ℕ
edges_weight g [] = 1
edges_weight g (i ∷ numbers) = (edge_at g i).weight * edges_weight g numbers

-- The weight of arrows along the edges of a spanning tree is the weight of these edges, whatever
-- the root is.
abbrev pub TreeWeights : Type 0
TreeWeights = (g : GraphOf) (root : ℕ) (numbers x : List ℕ) → IsGraph g → IsVertex g.vertices root
    → IsSpanningSet g numbers → LeadsToRoot g root x → HasEdges g root x numbers
    → sample_weight (weights_of_tree g root) x ≡ edges_weight g numbers
