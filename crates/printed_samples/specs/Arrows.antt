-- Arrows along edges of a graph, as they are printed: vertices and edges count from 1.
use Rattle.std.specs.Prelude.{◌≡◌, ◌⊎◌, ℕ, ◌-◌, ◌≤◌, ◌==◌, if◌then◌else◌, List, length, flat_map}
use Rattle.graph_read.specs.declared.edge.Edge.{Edge}
use Rattle.graph_read.specs.Graphs.{GraphOf, edge_at}
use Rattle.pop_print.specs.Output.{arrow_line}

-- the contents of a line `a T H E`
pub record Arrow : Type 0 where
  pub tail : ℕ
  pub head : ℕ
  pub number : ℕ

-- the lines of these arrows
abbrev pub lines_of : List Arrow → List ℕ
lines_of arrows = flat_map (λ a. arrow_line a.tail a.head a.number) arrows

-- the two ends of the edge are these vertices
abbrev pub HasEnds : Edge → ℕ → ℕ → Type 0
HasEnds e a b = ((e.u ≡ a) × (e.v ≡ b)) ⊎ ((e.u ≡ b) × (e.v ≡ a))

-- the arrow goes along the edge of the graph with its number
pub record IsAlong (g : GraphOf) (a : Arrow) : Type 0 where
  pub first : 1 ≤ a.number
  pub last : a.number ≤ length g.edges
  pub ends : HasEnds (edge_at g (a.number - 1)) a.tail a.head

-- the arrow of an edge with its value: 0 is from its first vertex to its second, and 1 back
abbrev pub oriented : Edge → ℕ → ℕ → Arrow
oriented e number x =
    if x == 0 then record { tail = e.u; head = e.v; number = number }
    else record { tail = e.v; head = e.u; number = number }
