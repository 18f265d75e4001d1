-- Which inputs, formulas, graphs and stacks are rejected before anything is run.
use Rattle.std.specs.Prelude.{◌≡◌, ◌⊎◌, ℕ, ◌<◌, ◌≤◌, Bool, true, false, List, length, Option, Ok, Err, ⊤}
use Rattle.pop_model.specs.Stacks.{Origin}
use Rattle.pop_model.specs.Places.{IsLeast, IsLeastPair}
use Rattle.pop_model.specs.Popping.{Cube}
use Rattle.pop_edge.specs.declared.refusal.ReadRefusal.{ReadRefusal}
use Rattle.pop_edge.specs.declared.refusal.ReadRefusal.TheVariants.{ReadFault, OutOfMemory}
use Rattle.pop_stacks.specs.Faults.{IsSound}
use Rattle.extremal_check.specs.Clashes.{AreClashing}
use Rattle.dimacs_read.specs.Cnf.{Cnf}
use Rattle.dimacs_read.specs.CnfText.{AnswersCnf, HasNoBadLine as HasNoBadCnfLine}
use Rattle.dimacs_read.specs.Falsifying.{AreEventsOf}
use Rattle.graph_read.specs.Graphs.{GraphOf}
use Rattle.graph_read.specs.GraphText.{AnswersGraph, HasNoBadLine as HasNoBadGraphLine}
use Rattle.graph_read.specs.Grids.{grid_of}
use Rattle.graph_read.specs.Paths.{IsConnected, IsCutOff}
use Rattle.sink_popping.specs.Sinks.{IsIsolated}
use Rattle.cycle_popping.specs.Trees.{weights_of_tree}
use Rattle.pop_words.specs.declared.command.Command.{Command}
use Rattle.pop_words.specs.declared.command.Command.TheVariants.{Formula, Orient, Tree, Resample, Check, Make, Rounds}
use Rattle.pop_print.specs.declared.facts.Facts.TheVariants.{Formula as FormulaFacts, Orient as OrientFacts, Tree as TreeFacts, Made as MadeFacts}
use Rattle.job_subjects.specs.declared.stop.Stop.{Stop}
use Rattle.job_subjects.specs.declared.refusal.Refusal.{Refusal}
use Rattle.job_subjects.specs.declared.refusal.Refusal.TheVariants.{Isolated, NoRoot, CutOff, Clashes, Stopped}
use Rattle.job_subjects.specs.declared.wanted.Wanted.{Wanted}
use Rattle.job_subjects.specs.Refusals.{unread}
use Rattle.job_subjects.specs.StackFaults.{AreFew, RefusesStacks}
use Rattle.job_subjects.specs.Subjects.{pair_weights}

-- the error is one of the input itself, and not of the source or of memory
abbrev pub IsOfText : ReadRefusal → Type 0
IsOfText ReadFault = ⊥
IsOfText OutOfMemory = ⊥
IsOfText refusal = ⊤

-- the grammar of the input gives this error
pub record IsUnread (Refused : ReadRefusal → Type 0) (refusal : Refusal) : Type 0 where
  pub cause : ReadRefusal
  pub of_text : IsOfText cause
  pub refused : Refused cause
  pub is : refusal ≡ unread cause

-- the call was stopped, or the error is one of these
abbrev pub IsStopOr : (Refusal → Type 0) → Refusal → Type 0
IsStopOr Refuses refusal = ((stop : Stop) × (refusal ≡ Stopped stop)) ⊎ Refuses refusal

-- the call was stopped, or the grammar of the input gives this error
abbrev pub IsRefusalOf : (ReadRefusal → Type 0) → Refusal → Type 0
IsRefusalOf Refused refusal = IsStopOr (IsUnread Refused) refusal

-- two of these events clash; the error has the numbers of the first such pair
pub record AreClashed (events : List (ℕ × Cube)) (refusal : Refusal) : Type 0 where
  pub number : ℕ
  pub other : ℕ
  pub least : IsLeastPair (AreClashing events) number other
  pub is : refusal ≡ Clashes number other

-- two events of the formula clash, and this is the error
pub record IsClashing (f : Cnf) (refusal : Refusal) : Type 0 where
  pub events : List (ℕ × Cube)
  pub of_formula : AreEventsOf f.clauses events
  pub clash : AreClashed events refusal

-- the formula is rejected for its events: clashes are not allowed, and two events clash
abbrev pub RefusesEvents : Bool → Cnf → Refusal → Type 0
RefusesEvents true f refusal = ⊥
RefusesEvents false f refusal = IsClashing f refusal

-- a formula is rejected for its stacks, or otherwise for its events
abbrev pub RefusesFormula : Bool → Origin → Option ℕ → Cnf → Refusal → Type 0
RefusesFormula may_clash origin asked f refusal =
    RefusesStacks (FormulaFacts f.variables) origin (pair_weights f.variables) asked refusal
    ⊎ (IsSound origin (pair_weights f.variables) × RefusesEvents may_clash f refusal
    × AreFew asked (length (pair_weights f.variables)))

-- the error has the lowest vertex without edges
pub record HasIsolated (g : GraphOf) (refusal : Refusal) : Type 0 where
  pub vertex : ℕ
  pub least : IsLeast (IsIsolated g) vertex
  pub is : refusal ≡ Isolated vertex

-- a graph to be oriented is rejected for a vertex without edges, or otherwise for its stacks
abbrev pub RefusesOrienting : Origin → Option ℕ → GraphOf → Refusal → Type 0
RefusesOrienting origin asked g refusal =
    HasIsolated g refusal
    ⊎ (((w : ℕ) → IsIsolated g w → ⊥)
    × RefusesStacks (OrientFacts g) origin (pair_weights (length g.edges)) asked refusal)

-- the error has the lowest vertex that is not connected to the root
pub record HasCutOff (g : GraphOf) (root : ℕ) (refusal : Refusal) : Type 0 where
  pub vertex : ℕ
  pub least : IsLeast (IsCutOff g root) vertex
  pub is : refusal ≡ CutOff vertex

-- a graph is rejected for a root that is not a vertex, for a vertex that is not connected to the
-- root, or otherwise for its stacks
abbrev pub RefusesTree : Origin → Option ℕ → ℕ → GraphOf → Refusal → Type 0
RefusesTree origin asked root g refusal =
    ((refusal ≡ NoRoot root) × (g.vertices < root))
    ⊎ ((root ≤ g.vertices) × (HasCutOff g root refusal
    ⊎ (IsConnected g root
    × RefusesStacks (TreeFacts g root) origin (weights_of_tree g root) asked refusal)))

-- a grid is rejected for its stacks
abbrev pub RefusesGrid : Origin → Option ℕ → ℕ → Refusal → Type 0
RefusesGrid origin asked side refusal =
    RefusesStacks (MadeFacts side) origin (weights_of_tree (grid_of side) 1) asked refusal

-- an input of a formula is rejected by its grammar, or otherwise for the formula
abbrev pub RefusesCnf : (Cnf → Refusal → Type 0) → List ℕ → Refusal → Type 0
RefusesCnf Refuses text refusal =
    IsUnread (λ cause. AnswersCnf text (Err cause)) refusal
    ⊎ ((f : Cnf) × AnswersCnf text (Ok f) × Refuses f refusal)

-- an input of a graph is rejected by its grammar, or otherwise for the graph
abbrev pub RefusesGraph : (GraphOf → Refusal → Type 0) → List ℕ → Refusal → Type 0
RefusesGraph Refuses text refusal =
    IsUnread (λ cause. AnswersGraph text (Err cause)) refusal
    ⊎ ((g : GraphOf) × AnswersGraph text (Ok g) × Refuses g refusal)

-- The input of a command is rejected, for what is wanted of it. `check` wants nothing to be made,
-- and a grid is made without an input.
abbrev pub RefusesBy : Command → Wanted → List ℕ → Refusal → Type 0
RefusesBy Formula w text refusal = RefusesCnf (RefusesFormula false w.origin w.count) text refusal
RefusesBy Orient w text refusal = RefusesGraph (RefusesOrienting w.origin w.count) text refusal
RefusesBy Tree w text refusal = RefusesGraph (RefusesTree w.origin w.count w.root) text refusal
RefusesBy Resample w text refusal = RefusesCnf (RefusesFormula true w.origin w.count) text refusal
RefusesBy Check w text refusal = RefusesCnf IsClashing text refusal
RefusesBy Rounds w text refusal = RefusesCnf (RefusesFormula true w.origin w.count) text refusal
RefusesBy Make w text refusal = RefusesGrid w.origin w.count w.side refusal
RefusesBy command w text refusal = ⊥

-- an input is rejected for what is wanted of it
abbrev pub RefusesText : Wanted → List ℕ → Refusal → Type 0
RefusesText w text refusal = RefusesBy w.command w text refusal

-- The command reads a formula or a graph, what was taken is within the limit, and no line that was
-- taken to its end is rejected by its grammar.
abbrev pub HasNoBadLine : Command → List ℕ → Type 0
HasNoBadLine Formula taken = HasNoBadCnfLine taken
HasNoBadLine Orient taken = HasNoBadGraphLine taken
HasNoBadLine Tree taken = HasNoBadGraphLine taken
HasNoBadLine Resample taken = HasNoBadCnfLine taken
HasNoBadLine Check taken = HasNoBadCnfLine taken
HasNoBadLine Rounds taken = HasNoBadCnfLine taken
HasNoBadLine command taken = ⊥
