-- Theorems about printed trees.
use Rattle.std.specs.Prelude.{◌≡◌, ℕ, ◌+◌, ◌<◌, List, [], ◌∷◌, length}
use Rattle.pop_model.specs.Stacks.{Origin, StackTable, value_at}
use Rattle.pop_model.specs.Popping.{cursor, values_at}
use Rattle.pop_model.specs.Names.{vertex_of}
use Rattle.pop_model.specs.Families.{Event}
use Rattle.pop_model.specs.Families.Family.{Cycles}
use Rattle.pop_model.specs.Instances.{Instance}
use Rattle.pop_model.specs.Runs.{IsFinished, IsStuckList}
use Rattle.pop_stacks.specs.Faults.{IsSound}
use Rattle.graph_read.specs.Graphs.{GraphOf, IsVertex, IsGraph}
use Rattle.graph_read.specs.Grids.{grid_of}
use Rattle.graph_read.specs.Incidence.{edges_at}
use Rattle.graph_read.specs.Paths.{IsConnected}
use Rattle.cycle_popping.specs.Trees.{heads_of_tree, weights_of_tree}
use Rattle.pop_print.specs.declared.facts.Facts.TheVariants.{Tree, Made}
use Rattle.pop_print.specs.Output.{end_text}
use Rattle.printed_samples.specs.Arrows.{Arrow}
use Rattle.printed_samples.specs.Stuck.{AreStuck}
use Rattle.printed_samples.specs.Laws.{numbers_of}
use Rattle.printed_samples.specs.Trees.{arrows_to, graph_along, IsTreeTo, Spans, ShowsTree}
use Rattle.printed_samples.specs.ArrowCycles.{IsArrowCycle, ShowsCycles}
use Rattle.printed_samples.specs.Made.{ShowsMade, CountsCycles}

-- the current value of each variable is one of the edges at its vertex
abbrev pub AreSlots : GraphOf → ℕ → StackTable → List ℕ → Type 0
AreSlots g root s c = (v : ℕ) → v + 1 < g.vertices
    → value_at s v (cursor c v) < length (edges_at g (vertex_of root v))

-- A graph with a root that a path joins to each vertex, and current values of its variables. Each
-- of these selects an edge at its vertex.
pub record IsTreeState (g : GraphOf) (root : ℕ) (s : StackTable) (c : List ℕ) : Type 0 where
  pub graph : IsGraph g
  pub root_is : IsVertex g.vertices root
  pub joined : IsConnected g root
  pub count : length c + 1 ≡ g.vertices
  pub slots : AreSlots g root s c

-- the instance of the cycles of the arrows of a graph with a root, over these stacks
abbrev pub cycles_over : StackTable → GraphOf → ℕ → Instance
cycles_over s g root = record { stacks = s; family = Cycles (heads_of_tree g root) }

-- if no cycle of the arrows occurs, they are a spanning tree and lead to the root
abbrev pub PrintedLeads : Type 0
PrintedLeads = (g : GraphOf) (root : ℕ) (s : StackTable) (c : List ℕ) → IsTreeState g root s c
    → IsFinished (cycles_over s g root) c → IsTreeTo g root (arrows_to g root (values_at s c))

-- the edges of a tree's arrows are a spanning tree
abbrev pub TreeSpans : Type 0
TreeSpans = (g : GraphOf) (root : ℕ) (arrows : List Arrow) → IsTreeTo g root arrows
    → Spans g root (graph_along g arrows)

-- if cycles of the arrows of a graph occur, the printed numbers are the vertices of each
abbrev pub PrintedCycles : Type 0
PrintedCycles = (g : GraphOf) (root : ℕ) (s : StackTable) (c : List ℕ) (stuck : List Event)
    → IsTreeState g root s c → IsStuckList (cycles_over s g root) c stuck → 0 < length stuck
    → AreStuck (IsArrowCycle (arrows_to g root (values_at s c)))
    (numbers_of (Tree g root) (Cycles (heads_of_tree g root)) stuck)

-- what an end of a graph's cycles shows: a sample if none occurs, and otherwise the cycles that
-- occur
abbrev pub ShowsTreeEnd : GraphOf → ℕ → StackTable → List Event → List ℕ → Type 0
ShowsTreeEnd g root s [] out = ShowsTree g root out
ShowsTreeEnd g root s (e ∷ stuck) out = ShowsCycles g root s out

-- the text of an end of a graph's cycles shows what `ShowsTreeEnd` says
abbrev pub TreeShown : Type 0
TreeShown = (g : GraphOf) (root : ℕ) (s : StackTable) (c : List ℕ) (pops : ℕ) (stuck : List Event)
    → IsTreeState g root s c → IsStuckList (cycles_over s g root) c stuck
    → ShowsTreeEnd g root s stuck (end_text (Tree g root) (cycles_over s g root) c pops stuck)

-- what an end of a grid that is made shows: the sum over a tree if no cycle occurs, and otherwise
-- the number of cycles
abbrev pub ShowsMadeEnd : ℕ → StackTable → List Event → List ℕ → Type 0
ShowsMadeEnd side s [] out = ShowsMade side out
ShowsMadeEnd side s (e ∷ stuck) out = CountsCycles side s out

-- the text of an end of a grid that is made shows what `ShowsMadeEnd` says
abbrev pub MadeShown : Type 0
MadeShown = (side : ℕ) (s : StackTable) (c : List ℕ) (pops : ℕ) (stuck : List Event)
    → IsTreeState (grid_of side) 1 s c → IsStuckList (cycles_over s (grid_of side) 1) c stuck
    → ShowsMadeEnd side s stuck (end_text (Made side) (cycles_over s (grid_of side) 1) c pops stuck)

-- in stacks without a fault each value of a variable selects an edge at its vertex
abbrev pub SoundSlots : Type 0
SoundSlots = (origin : Origin) (g : GraphOf) (root : ℕ) (c : List ℕ) → IsGraph g
    → IsVertex g.vertices root → IsConnected g root → IsSound origin (weights_of_tree g root)
    → AreSlots g root (record { origin = origin; weights = weights_of_tree g root }) c
