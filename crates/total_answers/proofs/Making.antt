-- What a command samples of a text is made, or the text is refused: each form, each graph and the stacks are judged in
-- the order of the refusals.
use Rattle.std.proofs.Common.{inl, inr, ◌≡◌, ℕ, ◌≤◌, Bool, true, false, List, [], length, Option, refl, sym}
use Rattle.std.proofs.lemmas.Bool.{cases_lt, false≢true}
use Rattle.pop_model.specs.Stacks.{Origin}
use Rattle.pop_model.specs.Popping.{Cube}
use Rattle.pop_stacks.specs.Faults.{IsSound}
use Rattle.dimacs_read.specs.Cnf.{Cnf}
use Rattle.dimacs_read.specs.Falsifying.{AreEventsOf}
use Rattle.graph_read.specs.Graphs.{GraphOf, IsGraph, IsVertex}
use Rattle.graph_read.specs.Grids.{IsSide, grid_of}
use Rattle.cycle_popping.specs.Trees.{weights_of_tree}
use Rattle.pop_words.specs.declared.command.Command.{Command}
use Rattle.pop_words.specs.declared.command.Command.TheVariants.{Formula, Orient, Tree, Resample, Check, Make, Rounds, Replay, Resume}
use Rattle.pop_print.specs.declared.facts.Facts.TheVariants.{Formula as FormulaFacts, Orient as OrientFacts, Tree as TreeFacts, Made as MadeFacts}
use Rattle.job_subjects.specs.declared.refusal.Refusal.{Refusal}
use Rattle.job_subjects.specs.declared.refusal.Refusal.TheVariants.{Isolated, NoRoot, CutOff}
use Rattle.job_subjects.specs.declared.wanted.Wanted.{Wanted}
use Rattle.job_subjects.specs.StackFaults.{AreFew}
use Rattle.job_subjects.specs.Subjects.{Subject, pair_weights, assignments, orientations, arrows_to, AreAssignments, AreOrientations, AreArrows, AreGridArrows, IsOfCnf, IsOfGraph, IsSubjectOf}
use Rattle.job_subjects.specs.Refused.{RefusesFormula, RefusesOrienting, RefusesTree, RefusesGrid, RefusesBy}
use Rattle.answer_laws.proofs.SubjectKinds.{formula_family, graph_known}
use Rattle.total_answers.proofs.Clashes.{extremal_or_clashed}
use Rattle.total_answers.proofs.ClauseEvents.{clause_events}
use Rattle.total_answers.proofs.Connections.{cut_or_connected}
use Rattle.total_answers.proofs.SinkEvents.{isolated_or_none, sink_events}
use Rattle.total_answers.proofs.SoundStacks.{stacks_or_refused}
use Rattle.total_answers.proofs.Texts.{IsOrRefused, of_cnf, of_graph}

-- the stacks of what is sampled are sound, and the samples few
abbrev pub CanRun : Origin → Option ℕ → Subject → Type 0
CanRun origin asked s = IsSound origin s.weights × AreFew asked (length s.weights)

-- ---- each form

-- assignments to a formula
formula_or : (may_clash : Bool) (origin : Origin) (asked : Option ℕ) (f : Cnf)
    → IsOrRefused (λ s. AreAssignments may_clash f s × CanRun origin asked s) (RefusesFormula may_clash origin asked f)
formula_or may_clash origin asked f =
    elim (stacks_or_refused (FormulaFacts f.variables) origin (pair_weights f.variables) asked) [
      | inr (refusal, refuses) ↦ inr (refusal, inl refuses)
      | inl can ↦ (let (events, of) = clause_events f.clauses in by may_clash can events of)
    ]
  where
    by : (may_clash : Bool) → CanRun origin asked (assignments f []) → (events : List (ℕ × Cube))
        → AreEventsOf f.clauses events
        → IsOrRefused (λ s. AreAssignments may_clash f s × CanRun origin asked s)
        (RefusesFormula may_clash origin asked f)
    by true can events of = inl (
      assignments f events,
      (
        record { events = events; of_formula = of; extremal = λ not. absurd (false≢true (sym not)); is = refl },
        can,
      ),
    )
    by false can events of = elim (extremal_or_clashed events (formula_family f.clauses events of)) [
      | inl extremal ↦ inl (
        assignments f events,
        (
          record { events = events; of_formula = of; extremal = λ not. extremal; is = refl },
          can,
        ),
      )
      | inr (refusal, clash) ↦
          inr (refusal, inr (can.0, record { events = events; of_formula = of; clash = clash }, can.1))
    ]

-- orientations of a graph
orient_or : (origin : Origin) (asked : Option ℕ) (g : GraphOf)
    → IsOrRefused (λ s. AreOrientations g s × CanRun origin asked s) (RefusesOrienting origin asked g)
orient_or origin asked g = elim (isolated_or_none g) [
  | inl (w, least) ↦ inr (Isolated w, inl (record { vertex = w; least = least; is = refl }))
  | inr none ↦ elim (stacks_or_refused (OrientFacts g) origin (pair_weights (length g.edges)) asked) [
    | inr (refusal, refuses) ↦ inr (refusal, inr (none, refuses))
    | inl can ↦
        let (events, of) = sink_events g in
        inl (orientations g events, (record { touched = none; events = events; of_graph = of; is = refl }, can))
  ]
]

-- arrows to a root of a graph
tree_or : (origin : Origin) (asked : Option ℕ) (root : ℕ) (g : GraphOf) → IsGraph g → 1 ≤ root
    → IsOrRefused (λ s. AreArrows root g s × CanRun origin asked s) (RefusesTree origin asked root g)
tree_or origin asked root g is some = elim (cases_lt g.vertices root) [
  | inl past ↦ inr (NoRoot root, inl (refl, past))
  | inr last ↦
      let root_is : IsVertex g.vertices root = record { first = some; last = last } in
      elim (cut_or_connected g is root root_is) [
        | inl (w, least) ↦ inr (CutOff w, inr (last, inl (record { vertex = w; least = least; is = refl })))
        | inr joined ↦ elim (stacks_or_refused (TreeFacts g root) origin (weights_of_tree g root) asked) [
          | inr (refusal, refuses) ↦ inr (refusal, inr (last, inr (joined, refuses)))
          | inl can ↦
              inl (arrows_to (TreeFacts g root) g root, (record { root_is = root_is; joined = joined; is = refl }, can))
        ]
      ]
]

-- arrows to the first vertex of a grid
grid_or : (origin : Origin) (asked : Option ℕ) (side : ℕ) → IsSide side
    → IsOrRefused (λ s. AreGridArrows side s × CanRun origin asked s) (RefusesGrid origin asked side)
grid_or origin asked side is =
    elim (stacks_or_refused (MadeFacts side) origin (weights_of_tree (grid_of side) 1) asked) [
      | inr refused ↦ inr refused
      | inl can ↦ inl (arrows_to (MadeFacts side) (grid_of side) 1, (record { side_is = is; is = refl }, can))
    ]

-- ---- each command

-- what the command samples of the text, as it is wanted
abbrev pub CanBeMade : Command → Wanted → List ℕ → Subject → Type 0
CanBeMade k w text s = IsSubjectOf k w text s × CanRun w.origin w.count s

-- the command samples
abbrev pub Samples : Command → Type 0
Samples Check = ⊥
Samples Replay = ⊥
Samples Resume = ⊥
Samples k = Unit {0}

-- it samples of a text that spells a formula or a graph
cnf_made : (Are : Cnf → Subject → Type 0) (Can : Subject → Type 0) (Refuses : Refusal → Type 0) (text : List ℕ)
    → IsOrRefused (IsOfCnf (λ f s. Are f s × Can s) text) Refuses
    → IsOrRefused (λ s. IsOfCnf Are text s × Can s) Refuses
cnf_made Are Can Refuses text (inl (s, of)) =
    inl (s, (record { formula = of.formula; spelled = of.spelled; are = of.are.0 }, of.are.1))
cnf_made Are Can Refuses text (inr refused) = inr refused

graph_made : (Are : GraphOf → Subject → Type 0) (Can : Subject → Type 0) (Refuses : Refusal → Type 0) (text : List ℕ)
    → IsOrRefused (IsOfGraph (λ g s. Are g s × Can s) text) Refuses
    → IsOrRefused (λ s. IsOfGraph Are text s × Can s) Refuses
graph_made Are Can Refuses text (inl (s, of)) =
    inl (s, (record { graph = of.graph; spelled = of.spelled; are = of.are.0 }, of.are.1))
graph_made Are Can Refuses text (inr refused) = inr refused

-- a formula of which samples are wanted
of_formula : (may_clash : Bool) (w : Wanted) (text : List ℕ)
    → IsOrRefused (λ s. IsOfCnf (AreAssignments may_clash) text s × CanRun w.origin w.count s)
    (RefusesBy (elim may_clash [ true ↦ Resample | false ↦ Formula ]) w text)
of_formula true w text =
    cnf_made (AreAssignments true) (CanRun w.origin w.count) (RefusesBy Resample w text) text
    (of_cnf (λ f s. AreAssignments true f s × CanRun w.origin w.count s) (RefusesFormula true w.origin w.count) text
    (λ f spelled. formula_or true w.origin w.count f))
of_formula false w text =
    cnf_made (AreAssignments false) (CanRun w.origin w.count) (RefusesBy Formula w text) text
    (of_cnf (λ f s. AreAssignments false f s × CanRun w.origin w.count s) (RefusesFormula false w.origin w.count) text
    (λ f spelled. formula_or false w.origin w.count f))

-- so what a command samples is made, or the text is refused
pub made_or_refused : (k : Command) (w : Wanted) (text : List ℕ) → Samples k → (k ≡ Tree → 1 ≤ w.root)
    → (k ≡ Make → IsSide w.side) → IsOrRefused (CanBeMade k w text) (RefusesBy k w text)
made_or_refused Formula w text samples root side = of_formula false w text
made_or_refused Resample w text samples root side = of_formula true w text
made_or_refused Rounds w text samples root side = of_formula true w text
made_or_refused Orient w text samples root side =
    graph_made AreOrientations (CanRun w.origin w.count) (RefusesBy Orient w text) text
    (of_graph (λ g s. AreOrientations g s × CanRun w.origin w.count s) (RefusesOrienting w.origin w.count) text
    (λ g spelled. orient_or w.origin w.count g))
made_or_refused Tree w text samples root side =
    graph_made (AreArrows w.root) (CanRun w.origin w.count) (RefusesBy Tree w text) text
    (of_graph (λ g s. AreArrows w.root g s × CanRun w.origin w.count s) (RefusesTree w.origin w.count w.root) text
    (λ g spelled. tree_or w.origin w.count w.root g (graph_known text g spelled) (root refl)))
made_or_refused Make w text samples root side = grid_or w.origin w.count w.side (side refl)
made_or_refused k w text samples root side = absurd samples
