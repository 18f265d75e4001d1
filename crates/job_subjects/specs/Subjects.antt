-- What is sampled, without its stacks: the events of a formula, the sinks of a graph's
-- orientations, or the cycles of its arrows.
use Rattle.std.specs.Prelude.{◌≡◌, ℕ, Bool, true, false, List, [], ◌∷◌, length, replicate, Option, Ok}
use Rattle.pop_model.specs.Stacks.{Origin}
use Rattle.pop_model.specs.Popping.{Cube}
use Rattle.pop_model.specs.Families.{Family}
use Rattle.pop_model.specs.Families.Family.{Listed, Cycles}
use Rattle.pop_model.specs.Instances.{Instance}
use Rattle.pop_model.specs.Extremal.{IsExtremal}
use Rattle.dimacs_read.specs.Cnf.{Cnf}
use Rattle.dimacs_read.specs.CnfText.{AnswersCnf}
use Rattle.dimacs_read.specs.Falsifying.{AreEventsOf}
use Rattle.graph_read.specs.Graphs.{GraphOf, IsVertex}
use Rattle.graph_read.specs.GraphText.{AnswersGraph}
use Rattle.graph_read.specs.Grids.{IsSide, grid_of}
use Rattle.graph_read.specs.Paths.{IsConnected}
use Rattle.sink_popping.specs.Sinks.{AreSinksOf, IsIsolated}
use Rattle.cycle_popping.specs.Trees.{heads_of_tree, weights_of_tree}
use Rattle.pop_words.specs.declared.command.Command.{Command}
use Rattle.pop_words.specs.declared.command.Command.TheVariants.{Formula, Orient, Tree, Resample, Make, Rounds}
use Rattle.pop_print.specs.declared.facts.Facts.{Facts}
use Rattle.pop_print.specs.declared.facts.Facts.TheVariants.{Formula as FormulaFacts, Orient as OrientFacts, Tree as TreeFacts, Made as MadeFacts}
use Rattle.job_subjects.specs.declared.wanted.Wanted.{Wanted}

-- the facts that its output needs, the weights of each variable's values, and its events
pub record Subject : Type 0 where
  pub facts : Facts
  pub weights : List (List ℕ)
  pub family : Family

-- the instance of a subject over stacks of this source
abbrev pub instance_over : Origin → Subject → Instance
instance_over origin s =
    record { stacks = record { origin = origin; weights = s.weights }; family = s.family }

-- two values of weight 1 for each of n variables
abbrev pub pair_weights : ℕ → List (List ℕ)
pair_weights n = replicate n (1 ∷ 1 ∷ [])

-- the instance of listed events over n variables with two values
abbrev pub instance_of : Origin → ℕ → List (ℕ × Cube) → Instance
instance_of origin n events =
    record { stacks = record { origin = origin; weights = pair_weights n }; family = Listed events }

-- the instance of the cycles of arrows with these weights and heads
abbrev pub cycles_instance : Origin → List (List ℕ) → List (List (Option ℕ)) → Instance
cycles_instance origin weights heads =
    record { stacks = record { origin = origin; weights = weights }; family = Cycles heads }

-- the instance of the cycles of a graph with this root
abbrev pub tree_instance : Origin → GraphOf → ℕ → Instance
tree_instance origin g root =
    cycles_instance origin (weights_of_tree g root) (heads_of_tree g root)

-- assignments to the variables of a formula, which has these events
abbrev pub assignments : Cnf → List (ℕ × Cube) → Subject
assignments f events = record {
  facts = FormulaFacts f.variables;
  weights = pair_weights f.variables;
  family = Listed events;
}

-- orientations of a graph, which has these events
abbrev pub orientations : GraphOf → List (ℕ × Cube) → Subject
orientations g events = record {
  facts = OrientFacts g;
  weights = pair_weights (length g.edges);
  family = Listed events;
}

-- arrows to a root of a graph, printed by these facts
abbrev pub arrows_to : Facts → GraphOf → ℕ → Subject
arrows_to facts g root = record {
  facts = facts;
  weights = weights_of_tree g root;
  family = Cycles (heads_of_tree g root);
}

-- assignments of this formula; unless clashes are allowed, no two of its events clash
pub record AreAssignments (may_clash : Bool) (f : Cnf) (s : Subject) : Type 0 where
  pub events : List (ℕ × Cube)
  pub of_formula : AreEventsOf f.clauses events
  pub extremal : may_clash ≡ false → IsExtremal (Listed events)
  pub is : s ≡ assignments f events

-- orientations of this graph, in which each vertex has edges
pub record AreOrientations (g : GraphOf) (s : Subject) : Type 0 where
  pub touched : (w : ℕ) → IsIsolated g w → ⊥
  pub events : List (ℕ × Cube)
  pub of_graph : AreSinksOf g events
  pub is : s ≡ orientations g events

-- arrows to this root of this graph, in which each vertex is connected to the root
pub record AreArrows (root : ℕ) (g : GraphOf) (s : Subject) : Type 0 where
  pub root_is : IsVertex g.vertices root
  pub joined : IsConnected g root
  pub is : s ≡ arrows_to (TreeFacts g root) g root

-- Arrows to the first vertex of the grid of this side, in which each vertex is connected to it
-- (`graph_read::laws::grid_connected`).
pub record AreGridArrows (side : ℕ) (s : Subject) : Type 0 where
  pub side_is : IsSide side
  pub is : s ≡ arrows_to (MadeFacts side) (grid_of side) 1

-- the subject of the formula that the input denotes
pub record IsOfCnf (Are : Cnf → Subject → Type 0) (text : List ℕ) (s : Subject) : Type 0 where
  pub formula : Cnf
  pub spelled : AnswersCnf text (Ok formula)
  pub are : Are formula s

-- the subject of the graph that the input denotes
pub record IsOfGraph (Are : GraphOf → Subject → Type 0) (text : List ℕ) (s : Subject) : Type 0
  where
    pub graph : GraphOf
    pub spelled : AnswersGraph text (Ok graph)
    pub are : Are graph s

-- What a command samples of an input, as it is wanted. The events of a formula may clash for
-- `resample` and `rounds`. A grid is made without an input.
abbrev pub IsSubjectOf : Command → Wanted → List ℕ → Subject → Type 0
IsSubjectOf Formula w text s = IsOfCnf (AreAssignments false) text s
IsSubjectOf Orient w text s = IsOfGraph AreOrientations text s
IsSubjectOf Tree w text s = IsOfGraph (AreArrows w.root) text s
IsSubjectOf Resample w text s = IsOfCnf (AreAssignments true) text s
IsSubjectOf Make w text s = AreGridArrows w.side s
IsSubjectOf Rounds w text s = IsOfCnf (AreAssignments true) text s
IsSubjectOf command w text s = ⊥
