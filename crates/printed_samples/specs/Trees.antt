-- Spanning trees of a graph, in terms of the printed arrows.
use Rattle.std.specs.Prelude.{◌≡◌, ◌≢◌, ℕ, ◌+◌, ◌-◌, ◌≤◌, List, [], ◌∷◌, ◌++◌, length, map, slice_index, codes, All, Contains}
use Rattle.std.specs.List.{enumerate_from}
use Rattle.std.specs.List.Sorted.{IsStrictlyIncreasing}
use Rattle.pop_model.specs.Names.{vertex_of}
use Rattle.pop_model.specs.Text.{line}
use Rattle.graph_read.specs.Graphs.{GraphOf, IsVertex, edge_at}
use Rattle.graph_read.specs.Incidence.{edges_at, other_end}
use Rattle.graph_read.specs.Paths.{IsConnected}
use Rattle.printed_samples.specs.Arrows.{Arrow, lines_of, IsAlong}

-- the arrow of a vertex by its slot, which selects one of the edges there
abbrev pub slot_arrow : GraphOf → ℕ → ℕ → Arrow
slot_arrow g w x =
    let i = slice_index (edges_at g w) x in
    record { tail = w; head = other_end (edge_at g i) w; number = i + 1 }

-- the arrow of each vertex except the root, by its slot
abbrev pub arrows_to : GraphOf → ℕ → List ℕ → List Arrow
arrows_to g root slots = map (λ p. slot_arrow g (vertex_of root p.0) p.1) (enumerate_from 0 slots)

-- these arrows, one after another, lead from a vertex to another, each from its tail to its head
abbrev pub AreSteps : List Arrow → ℕ → List Arrow → ℕ → Type 0
AreSteps arrows w [] r = w ≡ r
AreSteps arrows w (a ∷ path) r = Contains arrows a × (a.tail ≡ w) × AreSteps arrows a.head path r

-- at most n of the arrows lead from a vertex to another
abbrev pub LeadWithin : List Arrow → ℕ → ℕ → ℕ → Type 0
LeadWithin arrows n w r = (path : List Arrow) × AreSteps arrows w path r × (length path ≤ n)

-- The arrows are the edges of a spanning tree of the graph, and lead to its root. They go along
-- different edges of the graph. There is one from each vertex except the root, by rising vertex.
-- They lead from each vertex to the root.
pub record IsTreeTo (g : GraphOf) (root : ℕ) (arrows : List Arrow) : Type 0 where
  pub count : length arrows + 1 ≡ g.vertices
  pub rising : IsStrictlyIncreasing (map (λ a. a.tail) arrows)
  pub tails : All (λ a. IsVertex g.vertices a.tail × (a.tail ≢ root)) arrows
  pub each : (w : ℕ) → IsVertex g.vertices w → w ≢ root → Contains (map (λ a. a.tail) arrows) w
  pub along : All (IsAlong g) arrows
  pub apart : (a b : Arrow) → Contains arrows a → Contains arrows b → a.number ≡ b.number → a ≡ b
  pub leads : (w : ℕ) → IsVertex g.vertices w → LeadWithin arrows g.vertices w root

-- the graph with only the edges of these arrows
abbrev pub graph_along : GraphOf → List Arrow → GraphOf
graph_along g arrows =
    record { vertices = g.vertices; edges = map (λ a. edge_at g (a.number - 1)) arrows }

-- a spanning tree of a graph: some of its edges, one fewer than the vertices, that join each
-- vertex to the root
pub record Spans (g : GraphOf) (root : ℕ) (tree : GraphOf) : Type 0 where
  pub vertices : tree.vertices ≡ g.vertices
  pub few : length tree.edges + 1 ≡ g.vertices
  pub of_graph : All (λ e. Contains g.edges e) tree.edges
  pub joined : IsConnected tree root

-- The text begins with a sample of the graph: the lines of the arrows of a spanning tree, which
-- lead to the root.
pub record ShowsTree (g : GraphOf) (root : ℕ) (out : List ℕ) : Type 0 where
  pub arrows : List Arrow
  pub rest : List ℕ
  pub out_is : out ≡ (line (codes "s SAMPLE") ++ lines_of arrows) ++ rest
  pub tree : IsTreeTo g root arrows
