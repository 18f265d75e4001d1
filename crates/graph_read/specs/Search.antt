-- A search from a root for the vertices that paths join to it.
use Rattle.std.specs.Prelude.{◌≡◌, ℕ, ◌+◌, ◌-◌, Bool, true, false, not, List, ◌++◌, length, slice_index_or, count_by, All, Contains}
use Rattle.graph_read.specs.declared.edge.Edge.{Edge}
use Rattle.graph_read.specs.declared.search.Search.{Search}
use Rattle.graph_read.specs.Graphs.{GraphOf, IsVertex}
use Rattle.graph_read.specs.Incidence.{other_end, touches}
use Rattle.graph_read.specs.Paths.{IsJoined}

-- the search has reached the vertex
abbrev pub IsMet : List Bool → ℕ → Type 0
IsMet met w = slice_index_or met (w - 1) false ≡ true

-- the number of vertices that the search has not reached
abbrev pub unmet : List Bool → ℕ
unmet met = count_by not met

-- the vertices found are those reached, and each is joined to the root
pub record IsSearch (g : GraphOf) (root : ℕ) (s : Search) : Type 0 where
  pub size : length s.met.items ≡ g.vertices
  pub joined : (w : ℕ) → IsVertex g.vertices w → IsMet s.met.items w → IsJoined g root w
  pub listed : (w : ℕ) → IsVertex g.vertices w → IsMet s.met.items w → Contains s.found.items w
  pub found : All (IsVertex g.vertices) s.found.items
  pub found_met : All (IsMet s.met.items) s.found.items

-- vertices that were reached and found stay so, and each vertex that is found was not reached
-- before
pub record Goes (old new : Search) : Type 0 where
  pub size : length new.met.items ≡ length old.met.items
  pub kept : (w : ℕ) → IsMet old.met.items w → IsMet new.met.items w
  pub more : List ℕ
  pub behind : new.found.items ≡ old.found.items ++ more
  pub count : unmet new.met.items + length new.found.items
      ≡ unmet old.met.items + length old.found.items

-- the other ends of the edges at a vertex are reached
abbrev pub HasVisited : GraphOf → Search → ℕ → Type 0
HasVisited g s v = (e : Edge) → Contains g.edges e → touches e v ≡ true
    → IsMet s.met.items (other_end e v)

-- the vertices reached are exactly those that paths join to the root
pub record AreJoined (g : GraphOf) (root : ℕ) (met : List Bool) : Type 0 where
  pub size : length met ≡ g.vertices
  pub joined : (w : ℕ) → IsVertex g.vertices w → IsMet met w → IsJoined g root w
  pub all : (w : ℕ) → IsVertex g.vertices w → IsJoined g root w → IsMet met w
