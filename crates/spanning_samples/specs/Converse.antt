-- The samples of graphs are exactly the sink-free orientations, and exactly the arrows that lead
-- to the root.
use Rattle.std.specs.Prelude.{◌↔◌, ℕ, List}
use Rattle.pop_model.specs.Popping.{Cube}
use Rattle.graph_read.specs.Graphs.{GraphOf, IsGraph, IsVertex}
use Rattle.graph_read.specs.Paths.{IsConnected}
use Rattle.sink_popping.specs.Sinks.{AreSinksOf, IsIsolated}
use Rattle.pop_print.specs.declared.facts.Facts.{Facts}
use Rattle.pop_samples.specs.Frames.{IsSampleOf}
use Rattle.job_subjects.specs.Subjects.{orientations, arrows_to}
use Rattle.answer_laws.specs.ExactAnswers.{frame_over}
use Rattle.answer_laws.specs.EverySample.{LeavesEach, LeadsToRoot}

-- In a graph without isolated vertices, the samples of the sinks are exactly the orientations in
-- which an edge leaves each vertex.
abbrev pub OrientationsAlone : Type 0
OrientationsAlone = (g : GraphOf) (events : List (ℕ × Cube)) (heights x : List ℕ) → AreSinksOf g events
    → ((w : ℕ) → IsIsolated g w → ⊥)
    → IsSampleOf (frame_over (orientations g events) heights) x ↔ LeavesEach g x

-- The samples of the cycles of a connected graph are exactly the arrows that lead to the root.
abbrev pub TreesAlone : Type 0
TreesAlone = (facts : Facts) (g : GraphOf) (root : ℕ) (heights x : List ℕ) → IsGraph g
    → IsVertex g.vertices root → IsConnected g root
    → IsSampleOf (frame_over (arrows_to facts g root) heights) x ↔ LeadsToRoot g root x
