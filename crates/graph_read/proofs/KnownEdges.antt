-- The edges at a vertex are edges of the graph, and the vertex of a variable is a vertex.
use Rattle.std.proofs.Common.{ℕ, ◌+◌, ◌<◌, ◌≤◌, ◌&&◌, not, Bool, true, false, ltb, cond, List, length, filter, get_or, All, arith}
use Rattle.std.specs.List.{enumerate_from}
use Rattle.std.proofs.lemmas.List.Elements.{All-map, All-filter}
use Rattle.std.proofs.lemmas.List.{length-map}
use Rattle.std.proofs.lemmas.List.FromFn.{length-enumerate_from, get_or-enumerate_from}
use Rattle.pop_model.specs.Names.{vertex_of}
use Rattle.graph_read.specs.declared.edge.Edge.{Edge}
use Rattle.graph_read.specs.Graphs.{GraphOf, IsVertex}
use Rattle.graph_read.specs.Incidence.{edges_at, touches, is_loop}
use Rattle.graph_read.proofs.Numbering.{numbered, length-numbered}

-- the numbers of a list's members are below its length
numbers_below : {X : Type 0} (xs : List X) → All (λ p. p.0 < length xs) (enumerate_from 0 xs)
numbers_below xs k d within =
    let size = length-enumerate_from 0 xs in
    let at = get_or-enumerate_from 0 xs k d (omega arith) in
    rw at (omega arith)

-- the number of an edge at a vertex
pub edge_known : (g : GraphOf) (w x d : ℕ) → x < length (edges_at g w) → get_or (edges_at g w) x d < length g.edges
edge_known g w x d within =
    let keeps : ℕ × Edge → Bool = λ p. touches p.1 w && not (is_loop p.1) in
    All-map (λ (i : ℕ). i < length g.edges) (λ (p : ℕ × Edge). p.0) (filter keeps (enumerate_from 0 g.edges))
    (All-filter keeps (λ p. p.0 < length g.edges) (enumerate_from 0 g.edges) (numbers_below g.edges)) x d within

-- so all of them are
pub edges_known : (g : GraphOf) (w : ℕ) → All (λ i. i < length g.edges) (edges_at g w)
edges_known g w = λ k d within. edge_known g w k d within

-- a vertex has at most as many edges as the graph
pub edges_few : (g : GraphOf) (w : ℕ) → length (edges_at g w) ≤ length g.edges
edges_few g w =
    let stands : Edge → Bool = λ e. touches e w && not (is_loop e) in
    omega (
      arith,
      length-map (numbered stands g.edges) (λ (p : ℕ × Edge). p.0),
      length-numbered stands g.edges,
    )

-- the vertex of a variable is one of the graph
pub vertex_is : (root n v : ℕ) → IsVertex n root → v + 1 < n → IsVertex n (vertex_of root v)
vertex_is root n v is below = let from = is.first in let to = is.last in by (ltb (v + 1) root)
  where
    by : (b : Bool) → IsVertex n (cond b (v + 1) (v + 2))
    by true = record { first = omega arith; last = omega arith }
    by false = record { first = omega arith; last = omega arith }
