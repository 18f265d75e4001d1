-- Different samples print different lines, and each spanning tree is printed. So printed samples
-- are in one-to-one correspondence with samples. Parallel edges don't change this, since each line
-- has the number of its edge.
use Rattle.std.specs.Prelude.{◌≡◌, ℕ, ◌-◌, ◌<◌, ◌^◌, false, List, ◌++◌, length, slice_index, All}
use Rattle.pop_model.specs.Names.{vertex_of}
use Rattle.graph_read.specs.Graphs.{GraphOf, IsGraph, IsVertex, edge_at}
use Rattle.graph_read.specs.Incidence.{edges_at, is_loop}
use Rattle.pop_print.specs.Output.{assignment_line, orientation_lines, tree_lines}
use Rattle.printed_samples.specs.Arrows.{Arrow}
use Rattle.printed_samples.specs.Trees.{IsTreeTo, arrows_to}
use Rattle.answer_laws.specs.EverySample.{LeadsToRoot}

-- this many values, each 0 or 1
pub record AreBits (count : ℕ) (values : List ℕ) : Type 0 where
  pub count_is : length values ≡ count
  pub bits : All (λ b. b < 2) values

-- No two assignments print the same line, whatever follows it.
abbrev pub AssignmentsApart : Type 0
AssignmentsApart = (n : ℕ) (x y more other : List ℕ) → n < 2 ^ 32 → AreBits n x → AreBits n y
    → assignment_line x ++ more ≡ assignment_line y ++ other → x ≡ y

-- No two orientations print the same lines: their values are equal at each edge except loops, for
-- which both directions are the same.
abbrev pub OrientationsApart : Type 0
OrientationsApart = (g : GraphOf) (x y more other : List ℕ) → IsGraph g
    → AreBits (length g.edges) x → AreBits (length g.edges) y
    → orientation_lines g x ++ more ≡ orientation_lines g y ++ other
    → (i : ℕ) → i < length g.edges → is_loop (edge_at g i) ≡ false
    → slice_index x i ≡ slice_index y i

-- a slot of each vertex except the root: an edge there, by its place
pub record AreSlots (g : GraphOf) (root : ℕ) (slots : List ℕ) : Type 0 where
  pub count : length slots ≡ g.vertices - 1
  pub places : (v : ℕ) → v < length slots
      → slice_index slots v < length (edges_at g (vertex_of root v))

-- No two choices of slots print the same arrows.
abbrev pub TreesApart : Type 0
TreesApart = (g : GraphOf) (root : ℕ) (x y more other : List ℕ) → IsGraph g
    → IsVertex g.vertices root → AreSlots g root x → AreSlots g root y
    → tree_lines g root x ++ more ≡ tree_lines g root y ++ other → x ≡ y

-- The arrows of each spanning tree to the root are the arrows of some slots.
abbrev pub EverySpanningTree : Type 0
EverySpanningTree = (g : GraphOf) (root : ℕ) (arrows : List Arrow) → IsGraph g
    → IsVertex g.vertices root → IsTreeTo g root arrows
    → (x : List ℕ) × LeadsToRoot g root x × (arrows_to g root x ≡ arrows)
