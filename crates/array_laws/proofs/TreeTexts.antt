-- The text of a tree's sample by the numbers of its row: the head and the edge of each arrow are those of the vertex's
-- slot, and the cursors are those of the vertices except the root.
use Rattle.std.proofs.Common.{◌≡◌, ◌≢◌, ℕ, ◌+◌, ◌-◌, ◌*◌, ◌<◌, cond, List, [], length, flat_map, get_or, refl, sym, ap, ap₂, subst, ◌∙◌, arith, ne_eqb, inl, inr}
use Rattle.std.specs.List.{range_with_len}
use Rattle.std.proofs.lemmas.Bool.{cases_lt, lt-ltb, le-ltb}
use Rattle.std.proofs.lemmas.List.FromFn.{fill_by_all}
use Rattle.pop_model.specs.Instances.{Instance}
use Rattle.pop_model.specs.Names.{vertex_of}
use Rattle.graph_read.specs.Graphs.{GraphOf, IsGraph, IsVertex, edge_at}
use Rattle.graph_read.specs.Incidence.{edges_at, other_end}
use Rattle.graph_read.proofs.KnownEdges.{edge_known, vertex_is}
use Rattle.graph_read.proofs.VisitedEdges.{other_end_vertex}
use Rattle.cycle_popping.proofs.TreeRows.{edge_is}
use Rattle.confluence_core.specs.declared.end.End.{End}
use Rattle.pop_print.specs.declared.facts.Facts.TheVariants.{Tree as TreeFacts}
use Rattle.pop_print.specs.Output.{arrow_line, tree_lines, vertex_line}
use Rattle.array_calls.specs.Trees.{AreTreesOf, HaveSlots, IsTreeRow, edge_along, edge_number, nothing, parent, trees_under, used, variable_at}
use Rattle.array_calls.proofs.TreeParts.{have_cursors, have_slots}
use Rattle.array_laws.specs.PrintedRows.{IsTextOfTree, number_of, row_arrow, row_arrows, row_used}
use Rattle.array_laws.proofs.BatchTexts.{end_told, text_at}
use Rattle.array_laws.proofs.Numbered.{lines_of_places}

-- the vertex of a variable isn't the root
no_root : (root v : ℕ) → vertex_of root v ≢ root
no_root root v same = elim (cases_lt (v + 1) root) [
  | inl less ↦
      let is : vertex_of root v ≡ v + 1 = ap (λ b. cond b (v + 1) (v + 2)) (lt-ltb (v + 1) root less) in
      absurd (omega (arith, is, same, less))
  | inr more ↦
      let is : vertex_of root v ≡ v + 2 = ap (λ b. cond b (v + 1) (v + 2)) (le-ltb (v + 1) root more) in
      absurd (omega (arith, is, same, more))
]

-- and has it for its variable
variable_here : (root v : ℕ) → variable_at root (vertex_of root v) ≡ v
variable_here root v = elim (cases_lt (v + 1) root) [
  | inl less ↦
      let is : vertex_of root v ≡ v + 1 = ap (λ b. cond b (v + 1) (v + 2)) (lt-ltb (v + 1) root less) in
      ap (variable_at root) is ∙ ap (λ b. cond b (v + 1 - 1) (v + 1 - 2)) (lt-ltb (v + 1) root less) ∙ omega arith
  | inr more ↦
      let is : vertex_of root v ≡ v + 2 = ap (λ b. cond b (v + 1) (v + 2)) (le-ltb (v + 1) root more) in
      ap (variable_at root) is
      ∙ ap (λ b. cond b (v + 2 - 1) (v + 2 - 2)) (le-ltb (v + 2) root (omega (arith, more))) ∙ omega arith
]

module _ (g : GraphOf) (graph : IsGraph g) (root : ℕ) (root_is : IsVertex g.vertices root) (key : List ℕ) (height : ℕ)
  where
    -- the instance of the trees
    abbrev i : Instance
    i = trees_under key height g root

    -- it is one
    are_trees : AreTreesOf g root i
    are_trees = record { key = key; height = height; is = refl }

    module _ (first j : ℕ) (parents edges useds counts : List ℕ)
        (row : IsTreeRow i g root first [] j parents edges useds counts) where
      -- where the row begins
      abbrev at : ℕ
      at = j * g.vertices

      abbrev end : End
      end = row.end

      slots : HaveSlots g root end.values
      slots = have_slots g root i (first + j) end root_is are_trees row.of_sample.over

      cursors : length end.cursors + 1 ≡ g.vertices
      cursors = have_cursors g root i (first + j) end root_is are_trees row.of_sample.over

      -- a number of a row of vertices is that of the vertex
      of_vertex : (number : ℕ → ℕ) (numbers : List ℕ) → ((k : ℕ) → k < g.vertices → get_or numbers (at + k) 0 ≡ number (k + 1))
          → (w : ℕ) → IsVertex g.vertices w → number_of numbers at w ≡ number w
      of_vertex number numbers has w vertex =
          let from = vertex.first in
          let to = vertex.last in
          let back : w - 1 + 1 ≡ w = omega (arith, from) in
          has (w - 1) (omega (arith, from, to)) ∙ ap number back

      -- the line of the arrow of a variable
      arrow : 0 < length edges → (v : ℕ) → v < length end.values
          → vertex_line g root (v, get_or end.values v 0) ≡ row_arrow at parents edges (vertex_of root v)
      arrow some v less =
          let count = slots.count in
          let w : ℕ = vertex_of root v in
          let vertex : IsVertex g.vertices w = vertex_is root g.vertices v root_is (omega (arith, less, count)) in
          let other : w ≢ root = no_root root v in
          let here : variable_at root w ≡ v = variable_here root v in
          let x : ℕ = get_or end.values v 0 in
          let e : ℕ = get_or (edges_at g w) x 0 in
          let along : edge_along g root end.values w ≡ e =
          ap (λ (u : ℕ). get_or (edges_at g w) (get_or end.values u 0) 0) here in
          let slot : x < length (edges_at g w) =
          subst (λ (u : ℕ). get_or end.values u 0 < length (edges_at g w)) here (slots.each w vertex other) in
          let head : ℕ = other_end (edge_at g e) w in
          let head_is : IsVertex g.vertices head =
          other_end_vertex g.vertices w (edge_at g e) (edge_is g e graph (edge_known g w x 0 slot)) in
          let from = head_is.first in
          let parent_is : number_of parents at w ≡ head - 1 =
          of_vertex (parent g root end.values) parents row.has_parents w vertex
          ∙ ap (λ b. cond b nothing (other_end (edge_at g (edge_along g root end.values w)) w - 1)) (ne_eqb w root other)
          ∙ ap (λ (k : ℕ). other_end (edge_at g k) w - 1) along in
          let edge_is_it : number_of edges at w ≡ e =
          of_vertex (edge_number g root end.values) edges (row.has_edges some) w vertex
          ∙ ap (λ b. cond b nothing (edge_along g root end.values w)) (ne_eqb w root other) ∙ along in
          let heads : head ≡ number_of parents at w + 1 = omega (arith, parent_is, from) in
          let numbers : e + 1 ≡ number_of edges at w + 1 = ap (λ (k : ℕ). k + 1) (sym edge_is_it) in
          ap₂ (λ (h k : ℕ). arrow_line w h k) heads numbers

      -- so the lines of the tree are those of the row
      arrows : 0 < length edges → tree_lines g root end.values ≡ row_arrows g.vertices root at parents edges
      arrows some =
          let count = slots.count in
          let size : length end.values ≡ g.vertices - 1 = omega (arith, count) in
          lines_of_places (vertex_line g root) (λ v. row_arrow at parents edges (vertex_of root v)) end.values (arrow some)
          ∙ ap (λ (n : ℕ). flat_map (λ v. row_arrow at parents edges (vertex_of root v)) (range_with_len 0 n)) size

      -- and so are the cursors
      used_are : 0 < length useds → end.cursors ≡ row_used g.vertices root at useds
      used_are some =
          let count = cursors in
          fill_by_all (λ v. number_of useds at (vertex_of root v)) end.cursors (g.vertices - 1) 0 (omega (arith, count))
          (λ v less.
          let w : ℕ = vertex_of root v in
          let vertex : IsVertex g.vertices w = vertex_is root g.vertices v root_is (omega (arith, less)) in
          let other : w ≢ root = no_root root v in
          sym (of_vertex (used root end.cursors) useds (row.has_used some) w vertex
          ∙ ap (λ b. cond b 0 (get_or end.cursors (variable_at root w) 0)) (ne_eqb w root other)
          ∙ ap (λ (u : ℕ). get_or end.cursors u 0) (variable_here root v)))

      -- the text of the sample
      pub tree_told : 0 < length edges → 0 < length useds → (text : List ℕ)
          → text ≡ text_at (TreeFacts g root) i (first + j) end
          → IsTextOfTree g root j parents edges useds counts text
      tree_told some_edges some_useds text is =
          end_told (TreeFacts g root) i (first + j) end (row_arrows g.vertices root at parents edges)
          (row_used g.vertices root at useds) (get_or counts (2 * j) 0) (get_or counts (2 * j + 1) 0) text row.of_sample is
          (arrows some_edges) (used_are some_useds) row.pops row.stuck
