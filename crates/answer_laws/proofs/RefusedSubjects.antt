-- A formula or a graph has at most one error for each command, and none if it can be sampled. Then its stacks are
-- valid, and the number of samples is within its limit. Its events don't clash if they may not, as extremal ones
-- don't. Or an edge touches each vertex, or each vertex is connected to the root.
use Rattle.std.proofs.Common.{◌≡◌, ◌≢◌, ℕ, List, Option, Some, slice_get, ap, sym, ◌∙◌, arith, Contains, inl, inr, Bool, true, false, length, refl, ap₂, subst, ◌⊎◌, ◌<◌, ◌≤◌}
use Rattle.std.proofs.lemmas.Option.{slice_get-get_or}
use Rattle.pop_model.specs.Popping.{Cube}
use Rattle.pop_model.specs.Families.{Event}
use Rattle.pop_model.specs.Families.Family.{Listed}
use Rattle.pop_model.specs.Extremal.{IsExtremal}
use Rattle.pop_model.specs.Stacks.{Origin}
use Rattle.pop_model.specs.Places.{IsLeastPair}
use Rattle.pop_model.proofs.Leasts.{one_least_pair, one_least}
use Rattle.pop_stacks.specs.Faults.{IsSound}
use Rattle.extremal_check.specs.Clashes.{AreClashing}
use Rattle.dimacs_read.specs.Cnf.{Cnf}
use Rattle.dimacs_read.specs.Falsifying.{AreEventsOf}
use Rattle.graph_read.specs.Graphs.{GraphOf}
use Rattle.graph_read.specs.Grids.{grid_of}
use Rattle.graph_read.specs.Paths.{IsConnected, IsCutOff}
use Rattle.sink_popping.specs.Sinks.{IsIsolated}
use Rattle.cycle_popping.specs.Trees.{weights_of_tree}
use Rattle.pop_print.specs.declared.facts.Facts.TheVariants.{Formula as FormulaFacts, Orient as OrientFacts, Tree as TreeFacts, Made as MadeFacts}
use Rattle.job_subjects.specs.declared.refusal.Refusal.{Refusal}
use Rattle.job_subjects.specs.declared.refusal.Refusal.TheVariants.{Clashes, Isolated, CutOff, NoRoot}
use Rattle.job_subjects.specs.StackFaults.{AreFew, RefusesStacks}
use Rattle.job_subjects.specs.Subjects.{Subject, pair_weights, assignments, AreAssignments, orientations, arrows_to, AreOrientations, AreArrows, AreGridArrows}
use Rattle.job_subjects.specs.Refused.{IsClashing, RefusesEvents, RefusesFormula, HasIsolated, RefusesOrienting, HasCutOff, RefusesTree, RefusesGrid}
use Rattle.answer_laws.proofs.OneSubject.{one_events}
use Rattle.answer_laws.proofs.RefusedStacks.{IsOneRefusal, CanBeRun, one_stacks, sound_unrefused, one_or}

-- ---- clashes

-- an event, by its unit and its cube
event_at : ℕ → Cube → Event
event_at unit e = record { unit = unit; cube = e }

-- a row of the list is an event under its place
listed_event : (rows : List (ℕ × Cube)) (number : ℕ) (e : Cube) → Contains rows (number, e)
    → (k : ℕ) × (slice_get rows k ≡ Some (number, e))
listed_event rows number e (k, within, same) = (k, slice_get-get_or rows k (number, e) within ∙ ap Some same)

-- an extremal family has no two events that clash
pub extremal_has_none : (rows : List (ℕ × Cube)) → IsExtremal (Listed rows) → (number other : ℕ)
    → AreClashing rows number other → ⊥
unfolding event_at
extremal_has_none rows extremal number other clashing =
    let e = clashing.events.0 in
    let f = clashing.events.1 in
    let one = listed_event rows number e clashing.events.2 in
    let two = listed_event rows other f clashing.events.3 in
    let clash = clashing.events.4 in
    let differ : event_at one.0 e ≢ event_at two.0 f = λ same.
    let places : one.0 ≡ two.0 = ap (λ (x : Event). x.unit) same in
    let rows_are : ◌≡◌ {A = Option (ℕ × Cube)} (Some (number, e)) (Some (other, f)) =
    sym one.1 ∙ ap (slice_get rows) places ∙ two.1 in
    let pairs : ◌≡◌ {A = ℕ × Cube} (number, e) (other, f) = cc in
    let numbers : number ≡ other = ap (λ (r : ℕ × Cube). r.0) pairs in
    let less = clashing.rising in
    absurd (omega arith) in
    clash.agree (extremal (event_at one.0 e) (event_at two.0 f) (number, one.1) (other, two.1) differ clash.share)

-- ---- formulas

-- a formula has one least clash
pub one_clash : (f : Cnf) → IsOneRefusal (IsClashing f)
one_clash f r s h h' =
    let events = one_events f.clauses h.events h'.events h.of_formula h'.of_formula in
    let i : ℕ = h.clash.number in
    let j : ℕ = h.clash.other in
    let here : IsLeastPair (AreClashing h'.events) i j =
    subst (λ rows. IsLeastPair (AreClashing rows) i j) events h.clash.least in
    let same = one_least_pair (AreClashing h'.events) i j h'.clash.number h'.clash.other here h'.clash.least in
    h.clash.is ∙ ap₂ Clashes same.0 same.1 ∙ sym h'.clash.is

-- extremal events don't clash
pub no_clash : (f : Cnf) (r : Refusal) → IsClashing f r → (events : List (ℕ × Cube)) → AreEventsOf f.clauses events
    → IsExtremal (Listed events) → ⊥
no_clash f r h events are extremal =
    let same = one_events f.clauses h.events events h.of_formula are in
    let i : ℕ = h.clash.number in
    let j : ℕ = h.clash.other in
    extremal_has_none events extremal i j (subst (λ rows. AreClashing rows i j) same h.clash.least.holds)

-- so the events of a formula are refused in one way
one_of_events : (may_clash : Bool) (f : Cnf) → IsOneRefusal (RefusesEvents may_clash f)
one_of_events true f r s h h' = absurd h
one_of_events false f r s h h' = one_clash f r s h h'

-- and so is the formula
pub one_formula_refusal : (may_clash : Bool) (origin : Origin) (asked : Option ℕ) (f : Cnf)
    → IsOneRefusal (RefusesFormula may_clash origin asked f)
one_formula_refusal may_clash origin asked f =
    let facts = FormulaFacts f.variables in
    let weights = pair_weights f.variables in
    one_or (RefusesStacks facts origin weights asked)
    (λ r. IsSound origin weights × RefusesEvents may_clash f r × AreFew asked (length weights))
    (one_stacks facts origin weights asked) (λ r s a b. one_of_events may_clash f r s a.1 b.1)
    (λ r s h b. sound_unrefused facts origin weights asked r b.0 b.2 h)

-- it isn't refused where it can be sampled
pub formula_unrefused : (may_clash : Bool) (origin : Origin) (asked : Option ℕ) (f : Cnf) (r : Refusal)
    → IsSound origin (pair_weights f.variables) → AreFew asked (length (pair_weights f.variables))
    → (RefusesEvents may_clash f r → ⊥) → RefusesFormula may_clash origin asked f r → ⊥
formula_unrefused may_clash origin asked f r sound few none (inl h) =
    sound_unrefused (FormulaFacts f.variables) origin (pair_weights f.variables) asked r sound few h
formula_unrefused may_clash origin asked f r sound few none (inr (sound', clash, few')) = none clash

-- the events of assignments to it don't clash where they may not
unclashed : (may_clash : Bool) (f : Cnf) (s : Subject) (r : Refusal) → AreAssignments may_clash f s
    → RefusesEvents may_clash f r → ⊥
unclashed true f s r are clash = clash
unclashed false f s r are clash = no_clash f r clash are.events are.of_formula (are.extremal refl)

-- so it isn't where these can be sampled
pub assignments_unrefused : (may_clash : Bool) (origin : Origin) (asked : Option ℕ) (f : Cnf) (s : Subject)
    (r : Refusal) → AreAssignments may_clash f s → CanBeRun origin asked s
    → RefusesFormula may_clash origin asked f r → ⊥
assignments_unrefused may_clash origin asked f s r are can h =
    let own : CanBeRun origin asked (assignments f are.events) = subst (CanBeRun origin asked) are.is can in
    formula_unrefused may_clash origin asked f r own.0 own.1 (unclashed may_clash f s r are) h

-- ---- graphs

-- a graph has one least isolated vertex
one_isolated : (g : GraphOf) → IsOneRefusal (HasIsolated g)
one_isolated g r s h h' =
    h.is ∙ ap Isolated (one_least (IsIsolated g) h.vertex h'.vertex h.least h'.least) ∙ sym h'.is

-- so it is refused in one way where it is to be oriented
pub one_orienting_refusal : (origin : Origin) (asked : Option ℕ) (g : GraphOf)
    → IsOneRefusal (RefusesOrienting origin asked g)
one_orienting_refusal origin asked g =
    let Stacks : Refusal → Type 0 = RefusesStacks (OrientFacts g) origin (pair_weights (length g.edges)) asked in
    one_or (HasIsolated g) (λ r. ((w : ℕ) → IsIsolated g w → ⊥) × Stacks r) (one_isolated g)
    (λ r s a b. one_stacks (OrientFacts g) origin (pair_weights (length g.edges)) asked r s a.1 b.1)
    (λ r s h b. b.0 h.vertex h.least.holds)

-- and not where an edge touches each vertex
pub orienting_unrefused : (origin : Origin) (asked : Option ℕ) (g : GraphOf) (r : Refusal)
    → ((w : ℕ) → IsIsolated g w → ⊥) → IsSound origin (pair_weights (length g.edges))
    → AreFew asked (length (pair_weights (length g.edges))) → RefusesOrienting origin asked g r → ⊥
orienting_unrefused origin asked g r touched sound few (inl h) = touched h.vertex h.least.holds
orienting_unrefused origin asked g r touched sound few (inr (touched', h)) =
    sound_unrefused (OrientFacts g) origin (pair_weights (length g.edges)) asked r sound few h

-- so it isn't where its orientations can be sampled
pub orientations_unrefused : (origin : Origin) (asked : Option ℕ) (g : GraphOf) (s : Subject) (r : Refusal)
    → AreOrientations g s → CanBeRun origin asked s → RefusesOrienting origin asked g r → ⊥
orientations_unrefused origin asked g s r are can h =
    let own : CanBeRun origin asked (orientations g are.events) = subst (CanBeRun origin asked) are.is can in
    orienting_unrefused origin asked g r are.touched own.0 own.1 h

-- a root has one least vertex that is cut off from it
one_cut_off : (g : GraphOf) (root : ℕ) → IsOneRefusal (HasCutOff g root)
one_cut_off g root r s h h' =
    h.is ∙ ap CutOff (one_least (IsCutOff g root) h.vertex h'.vertex h.least h'.least) ∙ sym h'.is

-- and none where each is joined to it
none_cut_off : (g : GraphOf) (root : ℕ) (r : Refusal) → IsConnected g root → HasCutOff g root r → ⊥
none_cut_off g root r joined h = h.least.holds.apart (joined h.vertex h.least.holds.vertex)

-- a root that is a vertex isn't past the last
not_past : (root last : ℕ) → root ≤ last → last < root → ⊥
not_past root last within past = omega (arith, within, past)

-- so a graph of which a tree is asked is refused in one way
pub one_tree_refusal : (origin : Origin) (asked : Option ℕ) (root : ℕ) (g : GraphOf)
    → IsOneRefusal (RefusesTree origin asked root g)
one_tree_refusal origin asked root g =
    let Stacks : Refusal → Type 0 = RefusesStacks (TreeFacts g root) origin (weights_of_tree g root) asked in
    let FromRoot : Refusal → Type 0 = λ r. HasCutOff g root r ⊎ (IsConnected g root × Stacks r) in
    let from_root : IsOneRefusal FromRoot =
    one_or (HasCutOff g root) (λ r. IsConnected g root × Stacks r) (one_cut_off g root)
    (λ r s a b. one_stacks (TreeFacts g root) origin (weights_of_tree g root) asked r s a.1 b.1)
    (λ r s h b. none_cut_off g root r b.0 h) in
    one_or (λ r. (r ≡ NoRoot root) × (g.vertices < root)) (λ r. (root ≤ g.vertices) × FromRoot r)
    (λ r s a b. a.0 ∙ sym b.0) (λ r s a b. from_root r s a.1 b.1) (λ r s a b. not_past root g.vertices b.0 a.1)

-- and not where its root is a vertex to which each is joined
pub tree_unrefused : (origin : Origin) (asked : Option ℕ) (root : ℕ) (g : GraphOf) (r : Refusal)
    → root ≤ g.vertices → IsConnected g root → IsSound origin (weights_of_tree g root)
    → AreFew asked (length (weights_of_tree g root)) → RefusesTree origin asked root g r → ⊥
tree_unrefused origin asked root g r last joined sound few (inl (is, past)) = not_past root g.vertices last past
tree_unrefused origin asked root g r last joined sound few (inr (last', inl h)) = none_cut_off g root r joined h
tree_unrefused origin asked root g r last joined sound few (inr (last', inr (joined', h))) =
    sound_unrefused (TreeFacts g root) origin (weights_of_tree g root) asked r sound few h

-- so it isn't where its arrows can be sampled
pub arrows_unrefused : (origin : Origin) (asked : Option ℕ) (root : ℕ) (g : GraphOf) (s : Subject) (r : Refusal)
    → AreArrows root g s → CanBeRun origin asked s → RefusesTree origin asked root g r → ⊥
arrows_unrefused origin asked root g s r are can h =
    let own : CanBeRun origin asked (arrows_to (TreeFacts g root) g root) =
    subst (CanBeRun origin asked) are.is can in
    tree_unrefused origin asked root g r are.root_is.last are.joined own.0 own.1 h

-- nor is a grid
pub grid_unrefused : (origin : Origin) (asked : Option ℕ) (side : ℕ) (s : Subject) (r : Refusal)
    → AreGridArrows side s → CanBeRun origin asked s → RefusesGrid origin asked side r → ⊥
grid_unrefused origin asked side s r are can h =
    let own : CanBeRun origin asked (arrows_to (MadeFacts side) (grid_of side) 1) =
    subst (CanBeRun origin asked) are.is can in
    sound_unrefused (MadeFacts side) origin (weights_of_tree (grid_of side) 1) asked r own.0 own.1 h

-- which is refused in one way
pub one_grid_refusal : (origin : Origin) (asked : Option ℕ) (side : ℕ) → IsOneRefusal (RefusesGrid origin asked side)
one_grid_refusal origin asked side = one_stacks (MadeFacts side) origin (weights_of_tree (grid_of side) 1) asked
