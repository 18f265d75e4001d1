-- Theorems about printed ends of formulas and orientations.
use Rattle.std.specs.Prelude.{◌≡◌, ℕ, ◌<◌, List, [], ◌∷◌, ◌++◌, length, map, sum, None, All}
use Rattle.pop_model.specs.Stacks.{Origin, StackTable, row_of, value_from, value_at}
use Rattle.pop_model.specs.Popping.{Cube, cursor, values_at}
use Rattle.pop_model.specs.Families.{Event, Family}
use Rattle.pop_model.specs.Families.Family.{Listed}
use Rattle.pop_model.specs.Instances.{Instance}
use Rattle.pop_model.specs.Runs.{IsFinished, IsStuckList}
use Rattle.pop_stacks.specs.Faults.{IsSound}
use Rattle.dimacs_read.specs.Cnf.{Cnf, AreLiterals, first_empty}
use Rattle.dimacs_read.specs.Falsifying.{AreEventsOf}
use Rattle.graph_read.specs.Graphs.{GraphOf, IsVertex}
use Rattle.sink_popping.specs.Sinks.{AreSinksOf, IsIsolated}
use Rattle.pop_print.specs.declared.facts.Facts.{Facts}
use Rattle.pop_print.specs.declared.facts.Facts.TheVariants.{Formula, Orient}
use Rattle.pop_print.specs.Names.{event_names}
use Rattle.pop_print.specs.Output.{literals_of, findings, used_line, end_text}
use Rattle.printed_samples.specs.Assignments.{IsSatisfied, ShowsAssignment}
use Rattle.printed_samples.specs.Orientations.{arrows_by, IsLeft, ShowsOrientation}
use Rattle.printed_samples.specs.Stuck.{AreStuck, IsFalseClause, IsUnleft, ShowsFalse, ShowsSinks}

-- the instance of these listed events over these stacks
abbrev pub instance_over : StackTable → List (ℕ × Cube) → Instance
instance_over s events = record { stacks = s; family = Listed events }

-- the current values of n variables are 0 or 1
abbrev pub HaveBits : ℕ → StackTable → List ℕ → Type 0
HaveBits n s c = (v : ℕ) → v < n → value_at s v (cursor c v) < 2

-- if no event of a formula occurs, each clause has one of the printed literals
abbrev pub PrintedSatisfies : Type 0
PrintedSatisfies = (f : Cnf) (events : List (ℕ × Cube)) (s : StackTable) (c : List ℕ)
    → AreLiterals f.variables f.clauses → first_empty f ≡ None → AreEventsOf f.clauses events
    → length c ≡ f.variables → HaveBits f.variables s c → IsFinished (instance_over s events) c
    → All (λ clause. IsSatisfied (literals_of (values_at s c)) clause) f.clauses

-- if no sink of a graph without isolated vertices occurs, an arrow leaves each vertex
abbrev pub PrintedLeaves : Type 0
PrintedLeaves = (g : GraphOf) (events : List (ℕ × Cube)) (s : StackTable) (c : List ℕ)
    → ((w : ℕ) → IsIsolated g w → ⊥) → AreSinksOf g events → length c ≡ length g.edges
    → HaveBits (length g.edges) s c → IsFinished (instance_over s events) c
    → (w : ℕ) → IsVertex g.vertices w → IsLeft (arrows_by g (values_at s c)) w

-- in stacks without a fault each value of a variable is one of those that have a weight, unless
-- all weights are 0
abbrev pub SoundValues : Type 0
SoundValues = (origin : Origin) (weights : List (List ℕ)) → IsSound origin weights
    → (v k : ℕ) → v < length weights → 0 < sum (row_of weights v)
    → value_from origin weights v k < length (row_of weights v)

-- the printed numbers of these events
abbrev pub numbers_of : Facts → Family → List Event → List (List ℕ)
numbers_of facts family stuck = map (event_names facts family) stuck

-- if events of a formula occur, the printed numbers are those of the clauses that are false for
-- the current values
abbrev pub PrintedFalse : Type 0
PrintedFalse = (f : Cnf) (events : List (ℕ × Cube)) (s : StackTable) (c : List ℕ)
    (stuck : List Event)
    → AreLiterals f.variables f.clauses → first_empty f ≡ None → AreEventsOf f.clauses events
    → length c ≡ f.variables → IsStuckList (instance_over s events) c stuck → 0 < length stuck
    → AreStuck (IsFalseClause f (values_at s c))
    (numbers_of (Formula f.variables) (Listed events) stuck)

-- if sinks of a graph without isolated vertices occur, the printed numbers are those of the
-- vertices that no arrow leaves
abbrev pub PrintedSinks : Type 0
PrintedSinks = (g : GraphOf) (events : List (ℕ × Cube)) (s : StackTable) (c : List ℕ)
    (stuck : List Event) → ((w : ℕ) → IsIsolated g w → ⊥) → AreSinksOf g events
    → length c ≡ length g.edges → HaveBits (length g.edges) s c
    → IsStuckList (instance_over s events) c stuck → 0 < length stuck
    → AreStuck (IsUnleft g (arrows_by g (values_at s c)))
    (numbers_of (Orient g) (Listed events) stuck)

-- what an end of a formula shows: a sample if no event occurs, and otherwise the clauses that are
-- false
abbrev pub ShowsFormula : Cnf → StackTable → List Event → List ℕ → Type 0
ShowsFormula f s [] out = ShowsAssignment f out
ShowsFormula f s (e ∷ stuck) out = ShowsFalse f s out

-- the text of the result at an end of a formula, with the cursors, shows this, for any text that
-- follows it
abbrev pub FormulaShown : Type 0
FormulaShown = (f : Cnf) (events : List (ℕ × Cube)) (s : StackTable) (c : List ℕ)
    (stuck : List Event) (more : List ℕ) → AreLiterals f.variables f.clauses → first_empty f ≡ None
    → AreEventsOf f.clauses events → length c ≡ f.variables → HaveBits f.variables s c
    → IsStuckList (instance_over s events) c stuck
    → ShowsFormula f s stuck
    ((findings (Formula f.variables) (instance_over s events) c stuck ++ used_line c) ++ more)

-- what an end of a graph's sinks shows: a sample if none occurs, and otherwise the vertices that
-- no arrow leaves
abbrev pub ShowsOriented : GraphOf → StackTable → List Event → List ℕ → Type 0
ShowsOriented g s [] out = ShowsOrientation g out
ShowsOriented g s (e ∷ stuck) out = ShowsSinks g s out

-- the text of an end of a graph's sinks shows what `ShowsOriented` says
abbrev pub OrientationShown : Type 0
OrientationShown = (g : GraphOf) (events : List (ℕ × Cube)) (s : StackTable) (c : List ℕ) (pops : ℕ)
    (stuck : List Event) → ((w : ℕ) → IsIsolated g w → ⊥) → AreSinksOf g events
    → length c ≡ length g.edges → HaveBits (length g.edges) s c
    → IsStuckList (instance_over s events) c stuck
    → ShowsOriented g s stuck (end_text (Orient g) (instance_over s events) c pops stuck)
