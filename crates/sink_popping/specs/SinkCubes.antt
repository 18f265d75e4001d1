-- The events of single vertices, in the form in which they are made.
use Rattle.std.specs.Prelude.{◌≡◌, ℕ, ◌+◌, ◌/◌, ◌%◌, ◌<◌, Bool, true, false, List, length, map, slice_index_or, Option, None, Some, Result, Ok, Err, ⊤}
use Rattle.pop_model.specs.Popping.{Cube}
use Rattle.graph_read.specs.Graphs.{GraphOf}
use Rattle.graph_read.specs.Incidence.{listed_edges}
use Rattle.sink_popping.specs.declared.sink_fault.SinkFault.{SinkFault}
use Rattle.sink_popping.specs.declared.sink_fault.SinkFault.TheVariants.{Isolated, OutOfMemory}
use Rattle.sink_popping.specs.Sinks.{pointing_to, has_loop, HasSink, IsIsolated}

-- the pair of a dart: its edge, and the value for which the edge points to the dart's end
abbrev pub pair_of : ℕ → ℕ × ℕ
pair_of dart = (dart / 2, dart % 2)

-- the edges at a vertex, without self-loops, each with the value for which it points there
abbrev pub pairs_at : GraphOf → ℕ → Cube
pairs_at g w = map (λ p. (p.0, pointing_to p.1 w)) (listed_edges g w)

-- for each vertex whether it has a self-loop; vertices count from 1, so the first mark is unused
pub record AreLoopMarks (g : GraphOf) (marks : List Bool) : Type 0 where
  pub count : length marks ≡ g.vertices + 1
  pub each : (w : ℕ) → w < length marks → slice_index_or marks w false ≡ has_loop g w

-- the result for a vertex: no event if it has a self-loop, its event, or that it is isolated
abbrev pub ComesOfVertex : GraphOf → ℕ → Result (Option Cube) SinkFault → Type 0
ComesOfVertex g w (Ok None) = has_loop g w ≡ true
ComesOfVertex g w (Ok (Some e)) = HasSink g w e
ComesOfVertex g w (Err (Isolated v)) = (v ≡ w) × IsIsolated g w
ComesOfVertex g w (Err OutOfMemory) = ⊤
