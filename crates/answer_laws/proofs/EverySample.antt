-- Values that satisfy a formula, leave no vertex of a graph a sink, or lead to its root are a sample. An event with
-- all its values there would be a false clause, a vertex that no edge leaves, or a cycle. Conversely, a sample of a
-- formula's events satisfies it. A literal that is not at the value that falsifies it is true, since values are 0 or
-- 1. So in a clause without a true literal each is false, and the values of its variables are its cube. The first
-- clause with that cube gives it its number. So it is an event, and the sample would have all its values.
use Rattle.std.proofs.Common.{inl, inr, ◌≡◌, ℕ, zero, suc, ◌<◌, ℤ, pos, negsuc, List, [], ◌∷◌, length, map, get_or, All, Option, None, Some, slice_index, refl, sym, ap, subst, ◌∙◌, arith, Contains, ◌⊎◌, Bool, true, false, not, ◌==◌, slice_get, eq-eqb, ne_eqb}
use Rattle.std.specs.Option.{option_and_then}
use Rattle.std.proofs.lemmas.Bool.{false≢true, cases_eq}
use Rattle.std.proofs.lemmas.List.{length-replicate, get_or_default}
use Rattle.std.proofs.lemmas.List.Elements.{All-contains, All-get_or}
use Rattle.std.proofs.lemmas.Option.{none-some, slice_get_within, get_or_from_slice_get, slice_get-get_or}
use Rattle.std.specs.List.{list_any}
use Rattle.std.proofs.lemmas.List.Folds.{Any-from_list_any, list_any_at}
use Rattle.pop_model.specs.Stacks.{StackTable, row_of}
use Rattle.pop_model.specs.Stacks.Origin.{Given}
use Rattle.pop_model.specs.Popping.{Cube, Occurs, current}
use Rattle.pop_model.specs.Cycles.{ReachesRoot, follow, first_of, head_of, arrow_at}
use Rattle.pop_model.specs.Families.{Event, IsEvent}
use Rattle.pop_model.specs.Families.Family.{Listed, Cycles}
use Rattle.pop_model.proofs.CycleFamily.{first_named}
use Rattle.pop_model.proofs.TreeEnd.{never_root}
use Rattle.pop_model.specs.Runs.{IsFinished}
use Rattle.pop_samples.specs.Finishing.{IsSample}
use Rattle.pop_samples.specs.Frames.{Rows, IsSampleOf}
use Rattle.pop_samples.proofs.MovedLogs.{known_variable}
use Rattle.dimacs_read.specs.Cnf.{Cnf, AreLiterals, IsLiteral, first_empty}
use Rattle.dimacs_read.specs.Falsifying.{falsifier, AreEventsOf}
use Rattle.graph_read.specs.Graphs.{GraphOf}
use Rattle.graph_read.proofs.Numbering.{contains_map}
use Rattle.sink_popping.specs.Sinks.{AreSinksOf, pointing_to}
use Rattle.sink_popping.proofs.SinkCubesLemmas.{touching_is_no_loop}
use Rattle.cycle_popping.specs.Trees.{heads_of_tree, weights_of_tree}
use Rattle.pop_print.specs.declared.facts.Facts.{Facts}
use Rattle.pop_print.specs.declared.facts.Facts.TheVariants.{Formula as FormulaFacts}
use Rattle.job_subjects.specs.Subjects.{pair_weights, assignments}
use Rattle.job_subjects.proofs.MadeInstances.{count_of_weights, slots_of_weights, tree_fits}
use Rattle.printed_samples.specs.Laws.{instance_over}
use Rattle.printed_samples.proofs.Literals.{falsifier_below}
use Rattle.printed_samples.proofs.Satisfied.{IsFalse, current_cube, false_occurs, none_occurs, not_empty}
use Rattle.answer_laws.specs.EverySample.{IsTrueUnder, Satisfies, LeavesEach, LeadsToRoot, EveryAssignment, EveryOrientation, EveryTree}
use Rattle.answer_laws.specs.ExactAnswers.{frame_over}
use Rattle.answer_laws.specs.RoundAnswers.{SamplesSatisfy}
use Rattle.answer_laws.proofs.SubjectKinds.{pair_size}
use Rattle.answer_laws.specs.PrintedOnce.{AreBits}

-- ---- what is a sample

-- the row of an event is one of the rows
pub row_there : (rows : List (ℕ × Cube)) (e : Event) (is : IsEvent (Listed rows) e) → Contains rows (is.0, e.cube)
row_there rows e is = (
  e.unit,
  slice_get_within rows e.unit (is.0, e.cube) is.1,
  get_or_from_slice_get rows e.unit (is.0, e.cube) (is.0, e.cube) is.1,
)

-- a value below 2 is one of two that have a weight
pub bit_weighs : (n : ℕ) (x : List ℕ) → length x ≡ n → All (λ b. b < 2) x → (v : ℕ) → v < length x
    → slice_index x v < length (row_of (pair_weights n) v)
bit_weighs n x count bits v below =
    let small : get_or x v 0 < 2 = bits v 0 below in
    let domain = pair_size n v (omega (arith, below, count)) in
    omega (arith, small, domain)

-- a literal isn't true at the value that falsifies it
not_both : (x : List ℕ) (l : ℤ) → slice_index x (falsifier l).0 ≡ (falsifier l).1 → IsTrueUnder x l → ⊥
not_both x (pos n) low high = absurd (omega (arith, low, high))
not_both x (negsuc n) high low = absurd (omega (arith, low, high))

-- an event of a satisfied formula would falsify the literal that is true
assignment_sample : (f : Cnf) (events : List (ℕ × Cube)) (x : List ℕ) → AreEventsOf f.clauses events → Satisfies f x
    → IsSample (Listed events) (slice_index x)
assignment_sample f events x are satisfied e is all =
    let has = ((are.exact is.0 e.cube).0 (row_there events e is)).0 in
    let clause : List ℤ = has.1 in
    let within = slice_get_within f.clauses has.0 clause has.3 in
    let Holds : List ℤ → Type 0 = λ c. (l : ℤ) × Contains c l × IsTrueUnder x l in
    let some : Holds clause = subst Holds (get_or_from_slice_get f.clauses has.0 clause [] has.3)
    (All-get_or Holds f.clauses has.0 [] within satisfied.clauses) in
    let l : ℤ = some.0 in
    let pair : Contains e.cube (falsifier l) = (has.4.same (falsifier l)).1 (contains_map falsifier clause l some.1) in
    not_both x l (All-contains (λ (p : ℕ × ℕ). slice_index x p.0 ≡ p.1) e.cube (falsifier l) all pair) some.2

pub every_assignment : EveryAssignment
every_assignment f events heights x are satisfied = record {
  count = satisfied.count ∙ sym (length-replicate {A = List ℕ} f.variables (1 ∷ 1 ∷ []));
  values = bit_weighs f.variables x satisfied.count satisfied.bits;
  sample = assignment_sample f events x are satisfied;
}

-- the event of a vertex would point each edge there, and no edge at it is a loop
orientation_sample : (g : GraphOf) (events : List (ℕ × Cube)) (x : List ℕ) → AreSinksOf g events → LeavesEach g x
    → IsSample (Listed events) (slice_index x)
orientation_sample g events x are left e is all =
    let w : ℕ = is.0 in
    let sink = (are.exact w e.cube).0 (row_there events e is) in
    let out = left.each w sink.vertex in
    elim out.leaves [
      | inl loop ↦
          false≢true (sym (touching_is_no_loop g w out.number out.edge sink.no_loop out.is out.touches_it) ∙ loop)
      | inr away ↦
          let x_is : ℕ = pointing_to out.edge w in
          let pair : Contains e.cube (out.number, x_is) = (sink.sink.exact out.number x_is).1
          (record { edge = out.edge; edge_is = out.is; touches_it = out.touches_it; value = refl }) in
          away (All-contains (λ (p : ℕ × ℕ). slice_index x p.0 ≡ p.1) e.cube (out.number, x_is) all pair)
    ]

pub every_orientation : EveryOrientation
every_orientation g events heights x are left = record {
  count = left.count ∙ sym (length-replicate {A = List ℕ} (length g.edges) (1 ∷ 1 ∷ []));
  values = bit_weighs (length g.edges) x left.count left.bits;
  sample = orientation_sample g events x are left;
}

-- rows of one entry each
pub singles : List ℕ → Rows
singles x = map (λ (y : ℕ). y ∷ []) x

-- their first entries are the values
pub first_entry : (x : List ℕ) (v : ℕ) → get_or (get_or (singles x) v []) 0 0 ≡ get_or x v 0
unfolding singles
first_entry [] v = refl
first_entry (y ∷ x) zero = refl
first_entry (y ∷ x) (suc v) = first_entry x v

-- steps that are alike lead alike
same_follow : (f g : ℕ → Option ℕ) → ((v : ℕ) → f v ≡ g v) → (k v : ℕ) → follow f k v ≡ follow g k v
same_follow f g same zero v = refl
same_follow f g same (suc k) v =
    ap (option_and_then f) (same_follow f g same k v) ∙ next (follow g k v)
  where
    -- the last step
    next : (o : Option ℕ) → option_and_then f o ≡ option_and_then g o
    next None = refl
    next (Some u) = same u

-- the variables of a cycle would never reach the root
tree_sample : (g : GraphOf) (root : ℕ) (x : List ℕ) → LeadsToRoot g root x
    → IsSample (Cycles (heads_of_tree g root)) (slice_index x)
tree_sample g root x leads e is all =
    let heads : List (List (Option ℕ)) = heads_of_tree g root in
    let weights : List (List ℕ) = weights_of_tree g root in
    let s : StackTable = record { origin = Given (singles x); weights = weights } in
    let step : ℕ → Option ℕ = λ u. head_of heads u (slice_index x u) in
    let v : ℕ = first_of e.cube in
    let named = first_named e.cube is.0.cube in
    let known : v < length weights = known_variable s (Cycles heads) (tree_fits s g root refl) e is v named in
    let count = count_of_weights g root in
    let size = leads.count in
    let reached : ReachesRoot step v = leads.reaches v (omega (arith, known, count, size)) in
    let occurs : Occurs s [] e.cube = λ k d within. first_entry x (get_or e.cube k d).0 ∙ all k d within in
    let stays = never_root heads s [] e.cube v reached.0 is.0 occurs named in
    let alike = same_follow (arrow_at heads s []) step (λ u. ap (head_of heads u) (first_entry x u)) reached.0 v in
    none-some stays.0 (sym reached.1 ∙ sym alike ∙ stays.1)

pub every_tree : EveryTree
every_tree facts g root heights x leads = record {
  count = leads.count ∙ sym (count_of_weights g root);
  values = λ v below.
      let size = leads.count in
      let place = leads.places v below in
      let slots = slots_of_weights g root v (omega (arith, below, size)) in
      omega (arith, place, slots);
  sample = tree_sample g root x leads;
}

-- ---- what a sample of a formula satisfies

-- a literal of a variable with a value below 2 that doesn't falsify it is true
is_true_at : (n : ℕ) (x : List ℕ) (l : ℤ) → IsLiteral n l → slice_index x (falsifier l).0 < 2
    → (slice_index x (falsifier l).0 ≡ (falsifier l).1 → ⊥) → IsTrueUnder x l
is_true_at n x (pos m) is small isnt = omega (arith, small, isnt)
is_true_at n x (negsuc m) is small isnt = omega (arith, small, isnt)

-- a clause has a literal that is true
abbrev HasTrue : List ℕ → List ℤ → Type 0
HasTrue x clause = (l : ℤ) × Contains clause l × IsTrueUnder x l

-- a clause has a true literal, or all are false
true_or_false : (n : ℕ) (x : List ℕ) (clause : List ℤ) → All (IsLiteral n) clause
    → ((v : ℕ) → v < n → slice_index x v < 2)
    → HasTrue x clause ⊎ ((l : ℤ) → Contains clause l → IsFalse (slice_index x) l)
true_or_false n x clause literals bits =
    (elim (list_any other clause) as (λ b. list_any other clause ≡ b
    → HasTrue x clause ⊎ ((l : ℤ) → Contains clause l → IsFalse (slice_index x) l)) [
      | true ↦ λ any.
          let (j, l, inside, at, away) = Any-from_list_any other clause any in
          let is = of_clause l (j, inside, at) in
          let isnt : slice_index x (falsifier l).0 ≡ (falsifier l).1 → ⊥ =
          (λ same. false≢true (sym (ap not (eq-eqb (slice_index x (falsifier l).0) (falsifier l).1 same)) ∙ away)) in
          inl (l, (j, inside, at), is_true_at n x l is (bits (falsifier l).0 (falsifier_below n l is)) isnt)
      | false ↦ λ none. inr (λ l has. is_false l has none)
    ]) refl
  where
    other : ℤ → Bool
    other l = not (slice_index x (falsifier l).0 == (falsifier l).1)

    of_clause : (l : ℤ) → Contains clause l → IsLiteral n l
    of_clause l has = All-contains (IsLiteral n) clause l literals has

    is_false : (l : ℤ) → Contains clause l → list_any other clause ≡ false → IsFalse (slice_index x) l
    is_false l (j, inside, at) none = elim (cases_eq (slice_index x (falsifier l).0) (falsifier l).1) [
      | inl same ↦ same
      | inr isnt ↦
          let away : other l ≡ true = ap not (ne_eqb (slice_index x (falsifier l).0) (falsifier l).1 isnt) in
          absurd (false≢true (sym none ∙ list_any_at other clause j l inside (ap other at ∙ away)))
    ]

-- the values of a sample of pairs are 0 and 1
pub pair_values : (n : ℕ) (events : List (ℕ × Cube)) (facts : Facts) (heights x : List ℕ)
    → IsSampleOf (frame_over (record { facts = facts; weights = pair_weights n; family = Listed events }) heights) x
    → AreBits n x
pair_values n events facts heights x is =
    let size : length x ≡ n = is.count ∙ length-replicate {A = List ℕ} n (1 ∷ 1 ∷ []) in
    record {
      count_is = size;
      bits = λ v d below.
          let value = is.values v below in
          let domain = pair_size n v (omega (arith, below, size)) in
          let same : get_or x v 0 ≡ get_or x v d = get_or_default x v 0 d below in
          omega (arith, value, domain, same);
    }

-- a sample satisfies the formula
sample_satisfies : (f : Cnf) (events : List (ℕ × Cube)) (heights x : List ℕ) → AreLiterals f.variables f.clauses
    → first_empty f ≡ None → AreEventsOf f.clauses events → IsSampleOf (frame_over (assignments f events) heights) x
    → Satisfies f x
sample_satisfies f events heights x literals full are is =
    record { count = values.count_is; bits = values.bits; clauses = clauses }
  where
    values : AreBits f.variables x
    values = pair_values f.variables events (FormulaFacts f.variables) heights x is

    bits : (v : ℕ) → v < f.variables → slice_index x v < 2
    bits v below = let size = values.count_is in values.bits v 0 (omega (arith, below, size))

    -- the stacks of one entry each
    s : StackTable
    s = record { origin = Given (singles x); weights = pair_weights f.variables }

    finished : IsFinished (instance_over s events) []
    finished e event occurs =
        is.sample e event (λ k d within. sym (first_entry x (get_or e.cube k d).0) ∙ occurs k d within)

    clauses : All (HasTrue x) f.clauses
    clauses k d within =
        let clause : List ℤ = get_or f.clauses k d in
        let at : slice_get f.clauses k ≡ Some clause = slice_get-get_or f.clauses k d within in
        elim (true_or_false f.variables x clause (literals k d within) bits) [
          | inl has ↦ has
          | inr none ↦
              let here : (l : ℤ) → Contains clause l → IsFalse (current s []) l =
              λ l has. first_entry x (falsifier l).0 ∙ none l has in
              let both = false_occurs f.variables s [] clause (literals k d within) (not_empty 0 f.clauses k clause full at)
              here in
              absurd (none_occurs s [] f.clauses events (current_cube s [] f.variables clause) are finished both.1
              (suc (suc k)) (suc k) (omega arith) (k, clause, refl, at, both.0))
        ]

-- the law
pub samples_satisfy : SamplesSatisfy
samples_satisfy f events heights x literals full are = (
  sample_satisfies f events heights x literals full are,
  every_assignment f events heights x are,
)
