-- How often each spanning tree is drawn, as a set of edges: by the product of their weights,
-- whatever the root is (Propp and Wilson 1998 state it with probabilities).
use Rattle.std.specs.Prelude.{◌≡◌, ℕ, ◌+◌, ◌-◌, ◌*◌, ◌<◌, ◌^◌, Bool, List, length, sum, All}
use Rattle.std.specs.Int.{◌∣◌}
use Rattle.std.specs.List.{sum_by}
use Rattle.pop_model.specs.Logs.{LogRecord}
use Rattle.graph_read.specs.Graphs.{GraphOf, IsGraph, IsVertex}
use Rattle.graph_read.specs.Paths.{IsConnected}
use Rattle.pop_print.specs.declared.facts.Facts.{Facts}
use Rattle.pop_samples.specs.Frames.{Rows, Frame}
use Rattle.pop_samples.specs.Exchange.{Samples}
use Rattle.pop_samples.specs.Lists.{AreAll}
use Rattle.key_samples.specs.Counts.{Count}
use Rattle.key_samples.specs.Numbers.{AreUpTo, Numbers, TableOf}
use Rattle.drawn_samples.specs.Drawn.{IsNearly, TableEnds}
use Rattle.drawn_samples.specs.Where.{SamplesWhere}
use Rattle.job_subjects.specs.Subjects.{arrows_to}
use Rattle.answer_laws.specs.ExactAnswers.{frame_over}
use Rattle.spanning_samples.specs.SpanningSets.{IsSpanningSet, HasEdges, edges_weight}

-- a table for which the rows end with arrows along these edges
pub record TableOfTree (f : Frame) (Kind : List ℕ → Rows → Type 0) (g : GraphOf) (root : ℕ)
    (numbers : List ℕ) (t : Numbers) : Type 0 where
  pub values : List ℕ
  pub table : TableOf f (Kind values) t
  pub edges : HasEdges g root values numbers

-- What is known of the tables of numbers for which the rows end with arrows to a root of a graph.
pub record AreTreesDrawn (f : Frame) (Kind : List ℕ → Rows → Type 0) (g : GraphOf) (root : ℕ)
    : Type 0 where
  -- The spanning trees of the graph are finitely many,
  pub trees : (z : ℕ) × Count (IsSpanningSet g) z
  -- each table ends with one of them,
  pub only : (w : List ℕ) (t : Numbers) → TableOf f (Kind w) t
      → (numbers : List ℕ) × IsSpanningSet g numbers × HasEdges g root w numbers
  -- and the tables for each of them are finitely many.
  pub counted : (numbers : List ℕ) → IsSpanningSet g numbers
      → (n : ℕ) × Count (TableOfTree f Kind g root numbers) n
  -- If the weights at each vertex sum to a number that divides 2 ^ 64, the tables for a tree have
  -- an exact share among all. It is the product of the weights of its edges, over the sum of these
  -- products over all spanning trees. The root does not enter.
  pub by_weights : All (λ ws. sum ws ∣ 2 ^ 64) f.weights
      → (numbers : List ℕ) (trees : List (List ℕ)) → IsSpanningSet g numbers
      → AreAll (IsSpanningSet g) trees → (n all : ℕ)
      → Count (TableOfTree f Kind g root numbers) n → Count (TableEnds f Kind) all
      → n * sum_by (edges_weight g) trees ≡ all * edges_weight g numbers
  -- Otherwise this holds nearly, with a bound in both directions.
  pub nearly : (bound : ℕ) → All (AreUpTo bound) f.weights
      → (numbers : List ℕ) (trees : List (List ℕ)) → IsSpanningSet g numbers
      → AreAll (IsSpanningSet g) trees → (n all : ℕ)
      → Count (TableOfTree f Kind g root numbers) n → Count (TableEnds f Kind) all
      → IsNearly ((2 ^ 64 - bound) ^ length f.weights) ((2 ^ 64 + bound) ^ length f.weights)
      n all (edges_weight g numbers) (sum_by (edges_weight g) trees)

-- what is fixed of the trees of a graph before the numbers are
abbrev pub tree_frame : Facts → GraphOf → ℕ → List ℕ → Frame
tree_frame facts g root heights = frame_over (arrows_to facts g root) heights

-- The one-thread run draws each spanning tree of a connected graph by the weights of its edges.
abbrev pub DrawnTrees : Type 0
DrawnTrees = (facts : Facts) (g : GraphOf) (root : ℕ) (heights : List ℕ) → IsGraph g
    → IsVertex g.vertices root → IsConnected g root
    → length heights ≡ g.vertices - 1 → All (λ h. 0 < h) heights
    → AreTreesDrawn (tree_frame facts g root heights) (Samples (tree_frame facts g root heights)) g root

-- The same holds for the runs with a wanted log, such as runs with at most a number of pops.
abbrev pub WantedTrees : Type 0
WantedTrees = (facts : Facts) (g : GraphOf) (root : ℕ) (heights : List ℕ) → IsGraph g
    → IsVertex g.vertices root → IsConnected g root
    → length heights ≡ g.vertices - 1 → All (λ h. 0 < h) heights → (wanted : List LogRecord → Bool)
    → AreTreesDrawn (tree_frame facts g root heights)
    (SamplesWhere (tree_frame facts g root heights) wanted) g root
