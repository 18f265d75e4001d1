-- The trees of a graph in arrays. Vertices count from 1 in the graph, and from 0 in the arrays.
use Rattle.std.specs.Prelude.{◌≡◌, ◌≢◌, ◌⊎◌, ℕ, ◌+◌, ◌-◌, ◌*◌, ◌<◌, ◌==◌, nat_lt, if◌then◌else◌, List, length, map, slice_index, Option, MatchOption}
use Rattle.std.specs.List.{range_with_len}
use Rattle.rand_chacha.specs.ChaCha.{key_of}
use Rattle.pop_model.specs.Stacks.Origin.{Keyed}
use Rattle.pop_model.specs.Families.Family.{Cycles}
use Rattle.pop_model.specs.Instances.{Instance}
use Rattle.pop_model.specs.Names.{vertex_of}
use Rattle.graph_read.specs.Graphs.{GraphOf, IsVertex, edge_at}
use Rattle.graph_read.specs.Incidence.{edges_at, other_end}
use Rattle.cycle_popping.specs.Trees.{heads_of_tree, weights_of_tree}
use Rattle.confluence_core.specs.declared.end.End.{End}
use Rattle.pop_batch.specs.Parts.{IsPartEnd, IsPartStop}
use Rattle.array_calls.specs.Rows.{HasRow, HasWanted, StaysFrom}
use Rattle.array_calls.specs.Draws.{AreWithinBudget, given, pops_of, unlimited}

-- the instance of a graph's trees to a root, under a key and a height
abbrev pub trees_under : List ℕ → ℕ → GraphOf → ℕ → Instance
trees_under key height g root = record {
  stacks = record { origin = Keyed (key_of key) 0 height; weights = weights_of_tree g root };
  family = Cycles (heads_of_tree g root);
}

-- the number that represents no vertex and no edge
abbrev pub nothing : ℕ
nothing = 4294967295

-- the variable of a vertex other than the root
abbrev pub variable_at : ℕ → ℕ → ℕ
variable_at root w = if nat_lt w root then w - 1 else w - 2

-- the edge along which the arrow of a vertex leads, by the slots of all variables
abbrev pub edge_along : GraphOf → ℕ → List ℕ → ℕ → ℕ
edge_along g root slots w = slice_index (edges_at g w) (slice_index slots (variable_at root w))

-- the number of that edge
abbrev pub edge_number : GraphOf → ℕ → List ℕ → ℕ → ℕ
edge_number g root slots w = if w == root then nothing else edge_along g root slots w

-- the vertex to which that arrow leads
abbrev pub parent : GraphOf → ℕ → List ℕ → ℕ → ℕ
parent g root slots w =
    if w == root then nothing else other_end (edge_at g (edge_along g root slots w)) w - 1

-- how many entries of the vertex were passed
abbrev pub used : ℕ → List ℕ → ℕ → ℕ
used root cursors w = if w == root then 0 else slice_index cursors (variable_at root w)

-- the cursors of a tree's variables, if the numbers are those of all vertices; without numbers,
-- none
abbrev pub without_root : ℕ → List ℕ → List ℕ
without_root root numbers =
    map (λ v. slice_index numbers (vertex_of root v - 1)) (range_with_len 0 (length numbers - 1))

-- The four arrays of a call for trees.
pub record TreeArrays : Type 0 where
  pub parents : List ℕ
  pub edges : List ℕ
  pub useds : List ℕ
  pub counts : List ℕ

abbrev pub tree_arrays : List ℕ → List ℕ → List ℕ → List ℕ → TreeArrays
tree_arrays parents edges useds counts =
    record { parents = parents; edges = edges; useds = useds; counts = counts }

-- Row j of the arrays has the end of sample first + j. It also has the number of its pops and the
-- number of cycles that still occur, which is 0 if the arrows are a tree. If cursors are given,
-- row 0 continues from them.
pub record IsTreeRow (i : Instance) (g : GraphOf) (root first : ℕ) (from : List ℕ) (j : ℕ)
    (parents edges useds counts : List ℕ) : Type 0 where
  pub end : End
  pub of_sample : IsPartEnd i (first + j) (given from j) end
  pub has_parents : HasRow (j * g.vertices) g.vertices (parent g root end.values) parents
  pub has_edges : HasWanted (j * g.vertices) g.vertices (edge_number g root end.values) edges
  pub has_used : HasWanted (j * g.vertices) g.vertices (used root end.cursors) useds
  pub pops : slice_index counts (2 * j) ≡ end.pops
  pub stuck : slice_index counts (2 * j + 1) ≡ length end.stuck

-- each of this many rows of the arrays has such an end
abbrev pub AreTreeRows : Instance → GraphOf → ℕ → ℕ → List ℕ → ℕ → List ℕ → List ℕ → List ℕ → List ℕ → Type 0
AreTreeRows i g root first from count parents edges useds counts =
    (j : ℕ) → j < count → IsTreeRow i g root first from j parents edges useds counts

-- Row j of the arrays has the state in which sample first + j stopped: its cursors, the number of
-- its pops and the number of cycles that occur there.
pub record IsTreeStop (i : Instance) (g : GraphOf) (root first : ℕ) (from : List ℕ) (j : ℕ)
    (useds counts : List ℕ) : Type 0 where
  pub stop : End
  pub of_sample : IsPartStop i (first + j) (given from j) stop
  pub has_used : HasRow (j * g.vertices) g.vertices (used root stop.cursors) useds
  pub pops : slice_index counts (2 * j) ≡ stop.pops
  pub stuck : slice_index counts (2 * j + 1) ≡ length stop.stuck

-- The call stopped at row j, because its budget was used up. The rows before it are at their ends.
-- Row j has its cursors and counts, and everything after it stays.
pub record StopsAtTree (i : Instance) (g : GraphOf) (root first : ℕ) (from : List ℕ) (budget count : ℕ)
    (old new : TreeArrays) (j : ℕ) : Type 0 where
  pub below : j < count
  pub rows : AreTreeRows i g root first from j new.parents new.edges new.useds new.counts
  pub stop : IsTreeStop i g root first from j new.useds new.counts
  pub limited : budget < unlimited
  pub spent : pops_of (j + 1) new.counts ≡ budget
  pub parents_stay : StaysFrom (j * g.vertices) old.parents new.parents
  pub edges_stay : StaysFrom (j * g.vertices) old.edges new.edges
  pub useds_stay : StaysFrom ((j + 1) * g.vertices) old.useds new.useds
  pub counts_stay : StaysFrom (2 * (j + 1)) old.counts new.counts

-- each of this many rows is at its end, within the budget
pub record EndsTrees (i : Instance) (g : GraphOf) (root first : ℕ) (from : List ℕ) (budget count : ℕ)
    (new : TreeArrays) : Type 0 where
  pub rows : AreTreeRows i g root first from count new.parents new.edges new.useds new.counts
  pub within : AreWithinBudget budget count new.counts

-- what a call leaves in the arrays, if it stopped at a row, or at none
abbrev pub LeavesTrees : Instance → GraphOf → ℕ → ℕ → List ℕ → ℕ → ℕ → TreeArrays → TreeArrays → Option ℕ → Type 0
LeavesTrees i g root first from budget count old new stopped =
    MatchOption stopped (EndsTrees i g root first from budget count new)
    (StopsAtTree i g root first from budget count old new)

-- each variable has one of the slots of its vertex
pub record HaveSlots (g : GraphOf) (root : ℕ) (slots : List ℕ) : Type 0 where
  pub count : length slots + 1 ≡ g.vertices
  pub each : (w : ℕ) → IsVertex g.vertices w → w ≢ root
      → slice_index slots (variable_at root w) < length (edges_at g w)

-- the instance is one of such trees, under some key and height
pub record AreTreesOf (g : GraphOf) (root : ℕ) (i : Instance) : Type 0 where
  pub key : List ℕ
  pub height : ℕ
  pub is : i ≡ trees_under key height g root

-- an array has this many rows of n numbers, or isn't wanted
abbrev pub FitsWanted : ℕ → ℕ → List ℕ → Type 0
FitsWanted n count numbers = (length numbers ≡ 0) ⊎ (length numbers ≡ count * n)

-- the arrays have this many rows of n numbers
pub record FitRows (n count : ℕ) (parents edges useds : List ℕ) : Type 0 where
  pub parents_fit : length parents ≡ count * n
  pub edges_fit : FitsWanted n count edges
  pub useds_fit : FitsWanted n count useds

-- if there is a budget, the cursors are wanted
abbrev pub WantsStops : ℕ → ℕ → ℕ → List ℕ → Type 0
WantsStops budget n count useds = budget < unlimited → length useds ≡ count * n

-- The cursors from which row 0 continues, if any are given: one for each of n variables or
-- vertices, below the height.
pub record FitFrom (n height : ℕ) (from : List ℕ) : Type 0 where
  pub count : (length from ≡ 0) ⊎ (length from ≡ n)
  pub below : (k : ℕ) → k < length from → slice_index from k < height
