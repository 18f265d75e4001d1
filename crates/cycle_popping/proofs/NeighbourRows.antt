-- The rows of a tree's arrows come of the neighbours of its vertices.
use Rattle.std.proofs.Common.{◌≡◌, ℕ, ◌-◌, ◌<◌, ◌≤◌, length, map, ap, ◌∙◌, All}
use Rattle.std.specs.Option.{unwrap_or}
use Rattle.std.proofs.lemmas.Simd.{map-map}
use Rattle.std.proofs.lemmas.List.Elements.{All-map, All-weaker}
use Rattle.pop_model.specs.Names.{vertex_of}
use Rattle.graph_read.specs.Graphs.{GraphOf, IsGraph, edge_at}
use Rattle.graph_read.specs.Incidence.{edges_at, neighbours_of, other_end}
use Rattle.graph_read.proofs.KnownEdges.{edges_known}
use Rattle.graph_read.proofs.VisitedEdges.{other_end_vertex}
use Rattle.cycle_popping.specs.Numbers.{numbers_at}
use Rattle.cycle_popping.specs.Trees.{variable_of}
use Rattle.cycle_popping.proofs.TreeRows.{edge_is}

-- the neighbours of a vertex are vertices, which count from 1
pub neighbours_from_one : (g : GraphOf) (w : ℕ) → IsGraph g → All (λ u. 1 ≤ u) (neighbours_of g w)
neighbours_from_one g w is =
    let other : ℕ → ℕ = λ i. other_end (edge_at g i) w in
    All-map (λ u. 1 ≤ u) other (edges_at g w)
    (All-weaker (λ i. i < length g.edges) (λ i. 1 ≤ other i)
    (λ i known. (other_end_vertex g.vertices w (edge_at g i) (edge_is g i is known)).first)
    (edges_at g w) (edges_known g w))

-- their numbers are those of the heads of the variable's slots
pub numbers_of_neighbours : (g : GraphOf) (root v w : ℕ) → w ≡ vertex_of root v
    → map (λ u. unwrap_or (variable_of root u) (g.vertices - 1)) (neighbours_of g w) ≡ numbers_at g root v
numbers_of_neighbours g root v w named =
    let number : ℕ → ℕ = λ u. unwrap_or (variable_of root u) (g.vertices - 1) in
    ap (λ u. map number (neighbours_of g u)) named
    ∙ map-map number (λ i. other_end (edge_at g i) (vertex_of root v)) (edges_at g (vertex_of root v))
