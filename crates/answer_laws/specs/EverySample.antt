-- Which values are samples, in terms of formulas and graphs. So each of these values is the sample
-- of some rows (`ExactAnswers.antt`).
use Rattle.std.specs.Prelude.{◌≡◌, ◌≢◌, ◌⊎◌, ℕ, ◌-◌, ◌<◌, true, ℤ, pos, negsuc, List, length, slice_index, slice_get, Some, All, Contains}
use Rattle.pop_model.specs.Popping.{Cube}
use Rattle.pop_model.specs.Cycles.{ReachesRoot, head_of}
use Rattle.pop_model.specs.Names.{vertex_of}
use Rattle.dimacs_read.specs.Cnf.{Cnf}
use Rattle.dimacs_read.specs.Falsifying.{AreEventsOf}
use Rattle.graph_read.specs.declared.edge.Edge.{Edge}
use Rattle.graph_read.specs.Graphs.{GraphOf, IsVertex}
use Rattle.graph_read.specs.Incidence.{is_loop, touches, edges_at}
use Rattle.sink_popping.specs.Sinks.{AreSinksOf, pointing_to}
use Rattle.cycle_popping.specs.Trees.{heads_of_tree}
use Rattle.pop_print.specs.declared.facts.Facts.{Facts}
use Rattle.pop_samples.specs.Frames.{IsSampleOf}
use Rattle.job_subjects.specs.Subjects.{assignments, orientations, arrows_to}
use Rattle.answer_laws.specs.ExactAnswers.{frame_over}

-- the literal is true: its variable has the value 1, or 0 if it is negated
abbrev pub IsTrueUnder : List ℕ → ℤ → Type 0
IsTrueUnder x (pos n) = slice_index x (n - 1) ≡ 1
IsTrueUnder x (negsuc n) = slice_index x n ≡ 0

-- a value below 2 for each variable, under which each clause has a true literal
pub record Satisfies (f : Cnf) (x : List ℕ) : Type 0 where
  pub count : length x ≡ f.variables
  pub bits : All (λ b. b < 2) x
  pub clauses : All (λ clause. (l : ℤ) × Contains clause l × IsTrueUnder x l) f.clauses

-- an edge leaves the vertex: a loop, or an edge that its value does not direct to this vertex
pub record HasWayOut (g : GraphOf) (x : List ℕ) (w : ℕ) : Type 0 where
  pub number : ℕ
  pub edge : Edge
  pub is : slice_get g.edges number ≡ Some edge
  pub touches_it : touches edge w ≡ true
  pub leaves : (is_loop edge ≡ true) ⊎ (slice_index x number ≢ pointing_to edge w)

-- a value below 2 for each edge, so that an edge leaves each vertex
pub record LeavesEach (g : GraphOf) (x : List ℕ) : Type 0 where
  pub count : length x ≡ length g.edges
  pub bits : All (λ b. b < 2) x
  pub each : (w : ℕ) → IsVertex g.vertices w → HasWayOut g x w

-- an edge at each vertex except the root, by its place there, so that these edges lead from each
-- vertex to the root
pub record LeadsToRoot (g : GraphOf) (root : ℕ) (x : List ℕ) : Type 0 where
  pub count : length x ≡ g.vertices - 1
  pub places : (v : ℕ) → v < length x → slice_index x v < length (edges_at g (vertex_of root v))
  pub reaches : (v : ℕ) → v < length x
      → ReachesRoot (λ u. head_of (heads_of_tree g root) u (slice_index x u)) v

-- each assignment that satisfies a formula is a sample of its events
abbrev pub EveryAssignment : Type 0
EveryAssignment = (f : Cnf) (events : List (ℕ × Cube)) (heights x : List ℕ)
    → AreEventsOf f.clauses events → Satisfies f x
    → IsSampleOf (frame_over (assignments f events) heights) x

-- each sink-free orientation of a graph is a sample of its sinks
abbrev pub EveryOrientation : Type 0
EveryOrientation = (g : GraphOf) (events : List (ℕ × Cube)) (heights x : List ℕ)
    → AreSinksOf g events → LeavesEach g x
    → IsSampleOf (frame_over (orientations g events) heights) x

-- each spanning tree of a graph, by its arrows to the root, is a sample of its cycles
abbrev pub EveryTree : Type 0
EveryTree = (facts : Facts) (g : GraphOf) (root : ℕ) (heights x : List ℕ) → LeadsToRoot g root x
    → IsSampleOf (frame_over (arrows_to facts g root) heights) x
