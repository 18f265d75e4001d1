-- The kinds of subjects: assignments to the formula of an input, orientations of its graph, arrows to a root of it,
-- and arrows of a grid. A property of each of these is one of whatever a command samples. Its events are different
-- cubes, or cycles. It makes a frame for rows of any heights: its family fits stacks of its weights.
use Rattle.std.proofs.Common.{◌≡◌, ◌≢◌, ℕ, ◌<◌, ℤ, List, [], ◌∷◌, length, map, get_or, sym, ap, subst, ◌∙◌, arith, Contains, Bool, true, false, Ok, All, refl}
use Rattle.std.specs.List.Sorted.{IsStrictlyIncreasing}
use Rattle.std.proofs.lemmas.List.{length-map, length-replicate, get_or-map, get_or-replicate}
use Rattle.std.proofs.lemmas.List.Elements.{Contains-get_or}
use Rattle.std.proofs.lemmas.List.Kept.{AllPairs-from_increasing}
use Rattle.std.proofs.lemmas.Option.{same_Some, slice_get-get_or, slice_get_within}
use Rattle.pop_model.specs.Stacks.{Origin, row_of}
use Rattle.pop_model.specs.Popping.{Cube, IsCube}
use Rattle.pop_model.specs.Families.{Event, IsEvent, AreEvents, IsFamily}
use Rattle.pop_model.specs.Families.Family.{Listed}
use Rattle.pop_model.specs.Instances.{FamilyFits}
use Rattle.pop_model.specs.Extremal.{IsExtremal, Exclude}
use Rattle.pop_model.proofs.Following.{rising_demand}
use Rattle.pop_model.specs.Stacks.Origin.{Given}
use Rattle.pop_instance.specs.Events.{FitVariables}
use Rattle.pop_samples.specs.Frames.{IsFrame}
use Rattle.pop_words.specs.declared.command.Command.{Command}
use Rattle.pop_words.specs.declared.command.Command.TheVariants.{Formula, Orient, Tree, Resample, Make, Rounds}
use Rattle.dimacs_read.specs.Falsifying.{AreEventsOf, HasCube}
use Rattle.dimacs_read.specs.Cnf.{Cnf, AreLiterals}
use Rattle.dimacs_read.specs.CnfText.{AnswersCnf}
use Rattle.dimacs_read.proofs.LiteralsLemmas.{body_literals, events_fit}
use Rattle.graph_read.specs.Graphs.{GraphOf, IsGraph, IsVertex}
use Rattle.graph_read.specs.GraphText.{AnswersGraph}
use Rattle.graph_read.specs.Grids.{IsSide, grid_of}
use Rattle.graph_read.specs.Paths.{IsConnected}
use Rattle.graph_read.proofs.GridGraphs.{grid_is_graph, first_vertex}
use Rattle.graph_read.proofs.GridPaths.{grid_connected}
use Rattle.sink_popping.specs.Sinks.{AreSinksOf}
use Rattle.sink_popping.proofs.OneDirection.{sinks_extremal}
use Rattle.sink_popping.proofs.SinkCubesLemmas.{pointing_small}
use Rattle.cycle_popping.specs.Trees.{weights_of_tree}
use Rattle.cycle_popping.proofs.TreeRows.{tree_arrows}
use Rattle.pop_print.specs.declared.facts.Facts.{Facts}
use Rattle.pop_print.specs.declared.facts.Facts.TheVariants.{Tree as TreeFacts, Made as MadeFacts}
use Rattle.job_subjects.specs.Subjects.{pair_weights, Subject, assignments, orientations, arrows_to, AreAssignments, AreArrows, AreGridArrows, IsOfCnf, IsOfGraph, IsSubjectOf}
use Rattle.job_subjects.specs.declared.wanted.Wanted.{Wanted}
use Rattle.job_subjects.proofs.MadeInstances.{tree_fits}
use Rattle.answer_laws.specs.ExactAnswers.{frame_over}
use Rattle.dimacs_read.proofs.GrammarLaw as cnf
use Rattle.graph_read.proofs.GrammarLaw as graph

-- ---- listed events

-- a cube excludes nothing of itself, since it has one value of each variable
alike : (e : Cube) → IsCube e → Exclude e e → ⊥
alike e cube (v, x, y, has, other, differ) =
    differ (same_Some x y (sym (rising_demand e v x cube.rising has) ∙ rising_demand e v y cube.rising other))

-- cubes of extremal rows differ: equal ones would share a variable and exclude nothing
different_cubes : (rows : List (ℕ × Cube)) → IsStrictlyIncreasing (map (λ r. r.0) rows)
    → ((r : ℕ × Cube) → Contains rows r → IsCube r.1) → IsExtremal (Listed rows) → AreEvents rows
different_cubes rows rising cubes extremal = record {
  rising = rising;
  different = λ i j d less within same.
      let r : ℕ × Cube = get_or rows i d in
      let q : ℕ × Cube = get_or rows j d in
      let before : i < length rows = omega (arith, less, within) in
      let e : Event = record { unit = i; cube = r.1 } in
      let f : Event = record { unit = j; cube = q.1 } in
      let e_is : IsEvent (Listed rows) e = (r.0, slice_get-get_or rows i d before) in
      let f_is : IsEvent (Listed rows) f = (q.0, slice_get-get_or rows j d within) in
      let apart : e ≢ f = λ one. let place = ap (λ (x : Event). x.unit) one in absurd (omega (arith, less, place)) in
      let cube : IsCube r.1 = cubes r (Contains-get_or rows i d before) in
      let p : ℕ × ℕ = get_or r.1 0 (0, 0) in
      let has : Contains r.1 p = Contains-get_or r.1 0 (0, 0) cube.some in
      let too : Contains q.1 p = subst (λ (c : Cube). Contains c p) same has in
      let exclude : Exclude r.1 q.1 = extremal e f e_is f_is apart (p.0, p.1, p.1, has, too) in
      alike r.1 cube (subst (λ (c : Cube). Exclude r.1 c) (sym same) exclude);
  cubes = λ k d within. cubes (get_or rows k d) (Contains-get_or rows k d within);
}

-- the events of a formula: of clauses with one cube only the first has an event, so no two cubes are the same
pub formula_family : (clauses : List (List ℤ)) (rows : List (ℕ × Cube)) → AreEventsOf clauses rows → AreEvents rows
formula_family clauses rows are = record {
  rising = are.rising;
  different = λ i j d less within same.
      let r : ℕ × Cube = get_or rows i d in
      let q : ℕ × Cube = get_or rows j d in
      let size = length-map rows (λ (p : ℕ × Cube). p.0) in
      let at_i = get_or-map (λ (p : ℕ × Cube). p.0) rows i d 0 (omega (arith, less, within)) in
      let at_j = get_or-map (λ (p : ℕ × Cube). p.0) rows j d 0 within in
      let step = AllPairs-from_increasing (map (λ (p : ℕ × Cube). p.0) rows) are.rising i j 0 less
      (omega (arith, size, within)) in
      let here = (are.exact r.0 r.1).0 (Contains-get_or rows i d (omega (arith, less, within))) in
      let there = (are.exact q.0 q.1).0 (Contains-get_or rows j d within) in
      there.1 r.0 (omega (arith, at_i, at_j, step)) (subst (HasCube clauses r.0) same here.0);
  cubes = λ k d within. ((are.exact (get_or rows k d).0 (get_or rows k d).1).0 (Contains-get_or rows k d within)).0.4.cube;
}

-- the events of sinks
pub sinks_family : (g : GraphOf) (rows : List (ℕ × Cube)) → AreSinksOf g rows → AreEvents rows
sinks_family g rows are =
    different_cubes rows are.rising (λ r has. ((are.exact r.0 r.1).0 has).sink.cube) (sinks_extremal g rows are)

-- the pairs of sinks are edges of the graph, with values below 2
pub sinks_fit : (g : GraphOf) (rows : List (ℕ × Cube)) → AreSinksOf g rows → FitVariables (length g.edges) rows
sinks_fit g rows are k d within j c inside =
    let r : ℕ × Cube = get_or rows k d in
    let p : ℕ × ℕ = get_or r.1 j c in
    let sink = (are.exact r.0 r.1).0 (Contains-get_or rows k d within) in
    let points = (sink.sink.exact p.0 p.1).0 (Contains-get_or r.1 j c inside) in
    let value = points.value in
    let small = pointing_small points.edge r.0 in
    (slice_get_within g.edges p.0 points.edge points.edge_is, omega (arith, value, small))

-- a variable of two values has two weights
pub pair_size : (n v : ℕ) → v < n → length (row_of (pair_weights n) v) ≡ 2
pair_size n v below = ap (λ (row : List ℕ). length row) (get_or-replicate n v (1 ∷ 1 ∷ []) [] below)

-- events over n variables of two values fit stacks of n variables with two weights each
pub pairs_fit : (origin : Origin) (n : ℕ) (rows : List (ℕ × Cube)) → FitVariables n rows
    → FamilyFits (record { origin = origin; weights = pair_weights n }) (Listed rows)
pairs_fit origin n rows fit k d within j c inside =
    let p : ℕ × ℕ = get_or (get_or rows k d).1 j c in
    let fits = fit k d within j c inside in
    let variable = fits.0 in
    let value = fits.1 in
    let count : length (pair_weights n) ≡ n = length-replicate n (1 ∷ 1 ∷ []) in
    let domain = pair_size n p.0 variable in
    (omega (arith, variable, count), omega (arith, value, domain))

-- ---- the kinds

-- the literals of a formula that was read are of its variables
pub literals_known : (text : List ℕ) (f : Cnf) → AnswersCnf text (Ok f) → AreLiterals f.variables f.clauses
literals_known text f answers =
    let is = cnf.sound text answers.0 in
    subst (λ (h : Cnf). AreLiterals h.variables h.clauses) (sym answers.1)
    (subst (AreLiterals _) (sym is.clauses) (body_literals _ is.others is.words))

-- a graph that was read is one
pub graph_known : (text : List ℕ) (g : GraphOf) → AnswersGraph text (Ok g) → IsGraph g
graph_known text g answers = subst IsGraph (sym answers.1) (graph.sound text answers.0).graph

-- it holds of each kind
pub record HoldsOfEach (text : List ℕ) (P : Subject → Type 0) : Type 0 where
  pub assignments_hold : (f : Cnf) (events : List (ℕ × Cube)) → AnswersCnf text (Ok f) → AreEventsOf f.clauses events
      → P (assignments f events)
  pub orientations_hold : (g : GraphOf) (events : List (ℕ × Cube)) → AnswersGraph text (Ok g) → AreSinksOf g events
      → P (orientations g events)
  pub arrows_hold : (g : GraphOf) (root : ℕ) → AnswersGraph text (Ok g) → IsVertex g.vertices root
      → IsConnected g root → P (arrows_to (TreeFacts g root) g root)
  pub grid_arrows_hold : (side : ℕ) → IsSide side → P (arrows_to (MadeFacts side) (grid_of side) 1)

-- so it does where it holds of the arrows of any graph, whatever the facts that tell them
pub with_arrows : (text : List ℕ) (P : Subject → Type 0)
    → ((f : Cnf) (events : List (ℕ × Cube)) → AnswersCnf text (Ok f) → AreEventsOf f.clauses events
    → P (assignments f events))
    → ((g : GraphOf) (events : List (ℕ × Cube)) → AnswersGraph text (Ok g) → AreSinksOf g events
    → P (orientations g events))
    → ((facts : Facts) (g : GraphOf) (root : ℕ) → IsGraph g → IsVertex g.vertices root → IsConnected g root
    → P (arrows_to facts g root)) → HoldsOfEach text P
with_arrows text P of_cnf of_graph of_arrows = record {
  assignments_hold = of_cnf;
  orientations_hold = of_graph;
  arrows_hold = λ g root spelled root_is joined.
      of_arrows (TreeFacts g root) g root (graph_known text g spelled) root_is joined;
  grid_arrows_hold = λ side is.
      of_arrows (MadeFacts side) (grid_of side) 1 (grid_is_graph side is) (first_vertex side is) (grid_connected side is);
}

module _ (text : List ℕ) (P : Subject → Type 0) (each : HoldsOfEach text P) where
  -- of assignments, whether or not their events may clash
  of_assignments : (may_clash : Bool) (s : Subject) → IsOfCnf (AreAssignments may_clash) text s → P s
  of_assignments may_clash s h =
      subst P (sym h.are.is) (each.assignments_hold h.formula h.are.events h.spelled h.are.of_formula)

  -- and so of whatever is sampled
  pub holds_of : (k : Command) (w : Wanted) (s : Subject) → IsSubjectOf k w text s → P s
  holds_of Formula w s h = of_assignments false s h
  holds_of Orient w s h =
      subst P (sym h.are.is) (each.orientations_hold h.graph h.are.events h.spelled h.are.of_graph)
  holds_of Tree w s h = subst P (sym h.are.is) (each.arrows_hold h.graph w.root h.spelled h.are.root_is h.are.joined)
  holds_of Resample w s h = of_assignments true s h
  holds_of Make w s h = subst P (sym h.is) (each.grid_arrows_hold w.side h.side_is)
  holds_of Rounds w s h = of_assignments true s h
  holds_of k w s h = absurd h

-- what is sampled hangs on the root and the side alone, and not on the stacks or on how many samples are asked for
pub same_subject : (k : Command) (w v : Wanted) (text : List ℕ) (s : Subject) → w.root ≡ v.root → w.side ≡ v.side
    → IsSubjectOf k w text s → IsSubjectOf k v text s
same_subject Formula w v text s root side h = h
same_subject Orient w v text s root side h = h
same_subject Tree w v text s root side h = subst (λ r. IsOfGraph (AreArrows r) text s) root h
same_subject Resample w v text s root side h = h
same_subject Make w v text s root side h = subst (λ n. AreGridArrows n s) side h
same_subject Rounds w v text s root side h = h
same_subject k w v text s root side h = absurd h

-- ---- frames

-- its family fits any stacks of the subject's weights
pub record HasFamily (s : Subject) : Type 0 where
  pub family : IsFamily s.family
  pub fits : (origin : Origin) → FamilyFits (record { origin = origin; weights = s.weights }) s.family

-- so do the events of a formula
pub assignments_family : (text : List ℕ) (f : Cnf) (events : List (ℕ × Cube)) → AnswersCnf text (Ok f)
    → AreEventsOf f.clauses events → HasFamily (assignments f events)
assignments_family text f events spelled are = record {
  family = formula_family f.clauses events are;
  fits = λ origin.
      pairs_fit origin f.variables events (events_fit f.variables f.clauses events (literals_known text f spelled) are);
}

-- and the cycles of the arrows to a root to which each vertex is joined
arrows_family : (facts : Facts) (g : GraphOf) (root : ℕ) → IsGraph g → IsVertex g.vertices root → IsConnected g root
    → HasFamily (arrows_to facts g root)
arrows_family facts g root is root_is joined = record {
  family = tree_arrows g root is root_is joined;
  fits = λ origin. tree_fits (record { origin = origin; weights = weights_of_tree g root }) g root refl;
}

-- and that of whatever is sampled
pub subject_family : (k : Command) (w : Wanted) (text : List ℕ) (s : Subject) → IsSubjectOf k w text s → HasFamily s
subject_family k w text s =
    holds_of text HasFamily (with_arrows text HasFamily (assignments_family text) (λ g events spelled are. record {
      family = sinks_family g events are;
      fits = λ origin. pairs_fit origin (length g.edges) events (sinks_fit g events are);
    }) arrows_family) k w s

-- with a height above 0 for each variable it makes a frame
pub subject_frame : (s : Subject) → HasFamily s → (heights : List ℕ) → length heights ≡ length s.weights
    → All (λ h. 0 < h) heights → IsFrame (frame_over s heights)
subject_frame s of heights count some =
    record { family = of.family; fits = of.fits (Given []); count = count; some = some }
