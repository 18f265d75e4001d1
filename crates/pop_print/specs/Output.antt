-- The text of a run's end.
use Rattle.std.specs.Prelude.{ℕ, ◌+◌, ◌==◌, if◌then◌else◌, List, [], ◌∷◌, ◌++◌, length, map, flat_map, decimal, codes, slice_index}
use Rattle.std.specs.List.{enumerate_from}
use Rattle.pop_model.specs.Stacks.{StackTable}
use Rattle.pop_model.specs.Popping.{values_at}
use Rattle.pop_model.specs.Families.{Event, Family}
use Rattle.pop_model.specs.Instances.{Instance}
use Rattle.pop_model.specs.Names.{vertex_of}
use Rattle.pop_model.specs.Text.{line, spaced}
use Rattle.graph_read.specs.declared.edge.Edge.{Edge}
use Rattle.graph_read.specs.Graphs.{GraphOf, edge_at}
use Rattle.graph_read.specs.Incidence.{edges_at, other_end}
use Rattle.pop_print.specs.declared.facts.Facts.{Facts}
use Rattle.pop_print.specs.declared.facts.Facts.TheVariants.{Formula, Orient, Tree, Made}
use Rattle.pop_print.specs.Names.{event_names}
use Rattle.pop_print.specs.Made.{grid_line, count_line, totals_line, sum_line, slot_sum}

-- the printed name of a variable, which counts from 1, with `-` before it if its value is 0
abbrev pub literal_of : ℕ → ℕ → List ℕ
literal_of v x = if x == 0 then 45 ∷ decimal (v + 1) else decimal (v + 1)

-- each variable with its value
abbrev pub literals_of : List ℕ → List (List ℕ)
literals_of values = map (λ p. literal_of p.0 p.1) (enumerate_from 0 values)

-- the line of an assignment: `v`, each variable, and 0
abbrev pub assignment_line : List ℕ → List ℕ
assignment_line values = line (codes "v" ++ spaced (literals_of values) ++ codes " 0")

-- the line of an arrow along an edge: its tail, its head, and the number of the edge, from 1
abbrev pub arrow_line : ℕ → ℕ → ℕ → List ℕ
arrow_line tail head number = line (codes "a" ++ spaced (map decimal (tail ∷ head ∷ number ∷ [])))

-- an edge with its value: 0 points from its first vertex to its second, and 1 back
abbrev pub oriented_line : Edge → ℕ → ℕ → List ℕ
oriented_line e number x =
    if x == 0 then arrow_line e.u e.v number else arrow_line e.v e.u number

-- an edge with its number, from 0, and its value
abbrev pub edge_line : List ℕ → ℕ × Edge → List ℕ
edge_line values p = oriented_line p.1 (p.0 + 1) (slice_index values p.0)

-- each edge of a graph
abbrev pub orientation_lines : GraphOf → List ℕ → List ℕ
orientation_lines g values = flat_map (edge_line values) (enumerate_from 0 g.edges)

-- a vertex with the slot of its arrow, which selects one of its edges
abbrev pub slot_line : GraphOf → ℕ → ℕ → List ℕ
slot_line g w x =
    let i = slice_index (edges_at g w) x in
    arrow_line w (other_end (edge_at g i) w) (i + 1)

-- the vertex of a variable with its value
abbrev pub vertex_line : GraphOf → ℕ → ℕ × ℕ → List ℕ
vertex_line g root p = slot_line g (vertex_of root p.0) p.1

-- each vertex except the root
abbrev pub tree_lines : GraphOf → ℕ → List ℕ → List ℕ
tree_lines g root values = flat_map (vertex_line g root) (enumerate_from 0 values)

-- the lines of the sample, by the values of its variables; if a grid was made, there are none
abbrev pub sample_lines : Facts → List ℕ → List ℕ
sample_lines (Formula n) values = assignment_line values
sample_lines (Orient g) values = orientation_lines g values
sample_lines (Tree g root) values = tree_lines g root values
sample_lines (Made side) values = []

-- the line of an event that occurs
abbrev pub stuck_line : Facts → Family → Event → List ℕ
stuck_line facts family e =
    line (codes "stuck" ++ spaced (map decimal (event_names facts family e)))

-- a line for each event that occurs
abbrev pub stuck_lines : Facts → Family → List Event → List ℕ
stuck_lines facts family stuck = flat_map (stuck_line facts family) stuck

-- the result, by the values of the variables: the sample, or the events that occur
abbrev pub found_lines : Facts → Family → List ℕ → List Event → List ℕ
found_lines facts family values [] = line (codes "s SAMPLE") ++ sample_lines facts values
found_lines facts family values (e ∷ stuck) =
    line (codes "s EXHAUSTED") ++ stuck_lines facts family (e ∷ stuck)

-- the result at cursors
abbrev pub findings : Facts → Instance → List ℕ → List Event → List ℕ
findings facts i cursors stuck = found_lines facts i.family (values_at i.stacks cursors) stuck

-- the line of the cursors, which say how many entries of each variable were consumed
abbrev pub used_line : List ℕ → List ℕ
used_line cursors = line (codes "used" ++ spaced (map decimal cursors))

-- the line of the number of pops
abbrev pub pops_line : ℕ → List ℕ
pops_line pops = line (codes "pops " ++ decimal pops)

-- the text of an end in full: the result, the cursors, the number of pops
abbrev pub full_text : Facts → Instance → List ℕ → ℕ → List Event → List ℕ
full_text facts i cursors pops stuck =
    findings facts i cursors stuck ++ used_line cursors ++ pops_line pops

-- the summary of an end for the grid of a side: the sum for a sample, and otherwise the number of
-- events that occur
abbrev pub summary : ℕ → StackTable → List ℕ → ℕ → List Event → List ℕ
summary side stacks cursors pops [] =
    line (codes "s SAMPLE") ++ grid_line side ++ totals_line cursors ++ pops_line pops
    ++ sum_line (slot_sum (values_at stacks cursors))
summary side stacks cursors pops (e ∷ stuck) =
    line (codes "s EXHAUSTED") ++ grid_line side ++ count_line (length (e ∷ stuck))
    ++ totals_line cursors ++ pops_line pops

-- the text of an end: the summary if a grid was made, and otherwise the whole end
abbrev pub end_text : Facts → Instance → List ℕ → ℕ → List Event → List ℕ
end_text (Made side) i cursors pops stuck = summary side i.stacks cursors pops stuck
end_text facts i cursors pops stuck = full_text facts i cursors pops stuck
