-- If no event of a formula occurs, each clause has a literal among the printed ones. The variables of a false clause,
-- each with its value, would be the clause's event, and the first clause that has this event gives it its number.
use Rattle.std.proofs.Common.{inl, inr, ◌≡◌, ◌⊎◌, ℕ, zero, suc, ◌+◌, ◌<◌, Bool, true, false, not, ◌==◌, ℤ, pos, List, [], ◌∷◌, length, map, filter, get_or, None, Some, slice_get, refl, sym, ap, subst, ◌∙◌, arith, All, Contains, eq-eqb, ne_eqb, eqb-true}
use Rattle.std.specs.List.{list_any, range_with_len}
use Rattle.std.specs.List.Sorted.{IsStrictlyIncreasing}
use Rattle.std.proofs.lemmas.Bool.{cases_eq, false≢true}
use Rattle.std.proofs.lemmas.List.{length-map, get_or-map}
use Rattle.std.proofs.lemmas.List.FromFn.{length-range_with_len, get_or-range_with_len}
use Rattle.std.proofs.lemmas.List.Folds.{Any-from_list_any, list_any_at}
use Rattle.std.proofs.lemmas.List.Elements.{Contains-get_or, filter_passes}
use Rattle.std.proofs.lemmas.List.Kept.{IsStrictlyIncreasing-filter}
use Rattle.std.proofs.lemmas.Option.{slice_get_within, slice_get-get_or, get_or_from_slice_get}
use Rattle.pop_model.specs.Stacks.{StackTable, value_at}
use Rattle.pop_model.specs.Popping.{Cube, cursor, variables, Occurs, current}
use Rattle.pop_model.specs.Runs.{IsFinished}
use Rattle.pop_model.proofs.Members.{in_range}
use Rattle.graph_read.proofs.Numbering.{contains_map, contains_map_from, contains_filter}
use Rattle.dimacs_read.specs.Cnf.{Cnf, AreLiterals, IsLiteral, empty_in, first_empty}
use Rattle.dimacs_read.specs.Falsifying.{AreEventsOf, Falsifies, HasCube, falsifier}
use Rattle.printed_samples.specs.Assignments.{IsSatisfied}
use Rattle.printed_samples.specs.Laws.{HaveBits, instance_over}
use Rattle.printed_samples.proofs.Literals.{words_at, word_among, literal_is, falsifier_below}

-- a member of a filtered list passes
passes_filter : (test : ℕ → Bool) (xs : List ℕ) (x : ℕ) → Contains (filter test xs) x → test x ≡ true
passes_filter test xs x (k, within, at) = sym (ap test at) ∙ filter_passes test xs k x within

-- the numbers below n rise, and none is missing
range_rises : (n : ℕ) → IsStrictlyIncreasing (range_with_len 0 n)
range_rises n k within =
    let size = length-range_with_len 0 n in
    let here = get_or-range_with_len 0 n k 0 (omega (arith, size, within)) in
    let there = get_or-range_with_len 0 n (k + 1) 0 (omega (arith, size, within)) in
    omega (arith, here, there)

-- the clause has a literal of this variable
abbrev pub names_variable : List ℤ → ℕ → Bool
names_variable clause v = list_any (λ l. (falsifier l).0 == v) clause

-- the variables of a clause, of n, with these values
abbrev pub valued : (ℕ → ℕ) → ℕ → ℕ × ℕ
valued value v = (v, value v)

-- all of them, as a cube
abbrev pub values_in : (ℕ → ℕ) → ℕ → List ℤ → Cube
values_in value n clause = map (valued value) (filter (names_variable clause) (range_with_len 0 n))

-- its variables are these
same_variables : (value : ℕ → ℕ) (xs : List ℕ) → variables (map (valued value) xs) ≡ xs
same_variables value [] = refl
same_variables value (x ∷ xs) = ap (λ (l : List ℕ). x ∷ l) (same_variables value xs)

-- the literal is false
abbrev pub IsFalse : (ℕ → ℕ) → ℤ → Type 0
IsFalse value l = value (falsifier l).0 ≡ (falsifier l).1

-- the values of a false clause's variables are its event
pub false_cube : (value : ℕ → ℕ) (n : ℕ) (clause : List ℤ) → 0 < length clause
    → ((l : ℤ) → Contains clause l → (falsifier l).0 < n) → ((l : ℤ) → Contains clause l → IsFalse value l)
    → Falsifies clause (values_in value n clause)
false_cube value n clause some below none = record {
  cube = record { some = full; rising = rises };
  same = λ p. (there p, back p);
}
  where
    rises : IsStrictlyIncreasing (variables (values_in value n clause))
    rises = subst IsStrictlyIncreasing
        (sym (same_variables value (filter (names_variable clause) (range_with_len 0 n))))
        (IsStrictlyIncreasing-filter (names_variable clause) (range_with_len 0 n) (range_rises n))

    pair_of : (l : ℤ) → Contains clause l → ◌≡◌ {A = ℕ × ℕ} (valued value (falsifier l).0) (falsifier l)
    pair_of l has = ap (λ (x : ℕ). ((falsifier l).0, x)) (none l has)

    has_literal : (l : ℤ) → Contains clause l → Contains (values_in value n clause) (falsifier l)
    has_literal l (k, within, at) =
        let v : ℕ = (falsifier l).0 in
        let named : names_variable clause v ≡ true =
        list_any_at (λ (m : ℤ). (falsifier m).0 == v) clause k l within
        (eq-eqb (falsifier (get_or clause k l)).0 v (ap (λ (m : ℤ). (falsifier m).0) at)) in
        subst (Contains (values_in value n clause)) (pair_of l (k, within, at))
        (contains_map (valued value) (filter (names_variable clause) (range_with_len 0 n)) v
        (contains_filter (names_variable clause) (range_with_len 0 n) v
        (in_range n v (below l (k, within, at))) named))

    full : 0 < length (values_in value n clause)
    full =
        let l : ℤ = get_or clause 0 (pos 0) in
        let has = has_literal l (Contains-get_or clause 0 (pos 0) some) in
        omega (arith, has.1)

    there : (p : ℕ × ℕ) → Contains (values_in value n clause) p → Contains (map falsifier clause) p
    there p has =
        let (v, kept, is) =
        contains_map_from (valued value) (filter (names_variable clause) (range_with_len 0 n)) 0 p has in
        let named = passes_filter (names_variable clause) (range_with_len 0 n) v kept in
        let (k, l, within, at, same) = Any-from_list_any (λ (l : ℤ). (falsifier l).0 == v) clause named in
        let variable : (falsifier l).0 ≡ v = eqb-true (falsifier l).0 v same in
        let pair : ◌≡◌ {A = ℕ × ℕ} (falsifier l) p =
        sym (pair_of l (k, within, at)) ∙ ap (valued value) variable ∙ is in
        subst (Contains (map falsifier clause)) pair (contains_map falsifier clause l (k, within, at))

    back : (p : ℕ × ℕ) → Contains (map falsifier clause) p → Contains (values_in value n clause) p
    back p has =
        let (l, inside, is) = contains_map_from falsifier clause (pos 0) p has in
        subst (Contains (values_in value n clause)) is (has_literal l inside)

-- pairs of variables and their current values occur
pub values_occur : (s : StackTable) (c : List ℕ) (xs : List ℕ)
    → Occurs s c (map (valued (λ v. value_at s v (cursor c v))) xs)
values_occur s c xs k d within =
    let value : ℕ → ℕ = λ v. value_at s v (cursor c v) in
    let size = length-map xs (valued value) in
    let is : get_or (map (valued value) xs) k d ≡ valued value (get_or xs k 0) =
    get_or-map (valued value) xs k 0 d (omega (arith, size, within)) in
    subst (λ (p : ℕ × ℕ). value p.0 ≡ p.1) (sym is) refl

-- a clause whose cube occurs: the least such clause numbers an event
pub none_occurs : (s : StackTable) (c : List ℕ) (clauses : List (List ℤ)) (events : List (ℕ × Cube)) (e : Cube)
    → AreEventsOf clauses events → IsFinished (instance_over s events) c → Occurs s c e
    → (bound n : ℕ) → n < bound → HasCube clauses n e → ⊥
none_occurs s c clauses events e are finished occurs zero n less has = absurd (omega (arith, less))
none_occurs s c clauses events e are finished occurs (suc bound) n less has =
    let (k, within, at) = (are.exact n e).1 (
      has,
      λ m before other.
          none_occurs s c clauses events e are finished occurs bound m (omega (arith, less, before)) other,
    ) in
    let place : slice_get events k ≡ Some (n, e) =
    slice_get-get_or events k (n, e) within ∙ ap (λ r. Some r) at in
    finished (record { unit = k; cube = e }) (n, place) occurs

-- a clause of a formula without an empty one
pub not_empty : (i : ℕ) (clauses : List (List ℤ)) (k : ℕ) (clause : List ℤ) → empty_in i clauses ≡ None
    → slice_get clauses k ≡ Some clause → 0 < length clause
not_empty i [] k clause none at =
    let within = slice_get_within [] k clause at in absurd (omega (arith, within))
not_empty i ([] ∷ clauses) zero clause none at = absurd (cc)
not_empty i ([] ∷ clauses) (suc k) clause none at = absurd (cc)
not_empty i ((l ∷ ls) ∷ clauses) zero clause none at =
    let same : l ∷ ls ≡ clause = get_or_from_slice_get ((l ∷ ls) ∷ clauses) zero clause clause at in
    subst (λ (c : List ℤ). 0 < length c) same (omega arith)
not_empty i ((l ∷ ls) ∷ clauses) (suc k) clause none at = not_empty (i + 1) clauses k clause none at

-- a literal of a clause is printed, or all are false
pub printed_or_false : (n : ℕ) (s : StackTable) (c : List ℕ) (clause : List ℤ) → All (IsLiteral n) clause → length c ≡ n
    → HaveBits n s c → IsSatisfied (words_at s c) clause ⊎ ((l : ℤ) → Contains clause l → IsFalse (current s c) l)
printed_or_false n s c clause literals size bits =
    (elim (list_any is_true clause) as (λ b. list_any is_true clause ≡ b
    → IsSatisfied (words_at s c) clause ⊎ ((l : ℤ) → Contains clause l → IsFalse (current s c) l)) [
      | true ↦ λ any.
          let (j, l, inside, at, true_there) = Any-from_list_any is_true clause any in
          let is = of_clause l (j, inside, at) in
          let below = falsifier_below n l is in
          let x = current s c (falsifier l).0 in
          let isnt : x ≡ (falsifier l).1 → ⊥ =
          (λ same. false≢true (sym (ap not (eq-eqb x (falsifier l).1 same)) ∙ true_there)) in
          inl (record {
            literal = l;
            in_clause = (j, inside, at);
            printed =
                subst (Contains (words_at s c)) (literal_is n x l is (bits (falsifier l).0 below) isnt)
                (word_among s c (falsifier l).0 (omega (arith, size, below)));
          })
      | false ↦ λ none. inr (λ l has. is_false l has none)
    ]) refl
  where
    is_true : ℤ → Bool
    is_true l = not (current s c (falsifier l).0 == (falsifier l).1)

    of_clause : (l : ℤ) → Contains clause l → IsLiteral n l
    of_clause l (j, inside, at) = subst (IsLiteral n) at (literals j l inside)

    is_false : (l : ℤ) → Contains clause l → list_any is_true clause ≡ false → IsFalse (current s c) l
    is_false l (j, inside, at) none = elim (cases_eq (current s c (falsifier l).0) (falsifier l).1) [
      | inl same ↦ same
      | inr isnt ↦
          let away : is_true l ≡ true = ap not (ne_eqb (current s c (falsifier l).0) (falsifier l).1 isnt) in
          absurd (false≢true (sym none ∙ list_any_at is_true clause j l inside (ap is_true at ∙ away)))
    ]

-- the variables of a clause, each with its current value
abbrev pub current_cube : StackTable → List ℕ → ℕ → List ℤ → Cube
current_cube s c n clause = values_in (current s c) n clause

-- where the clause is false, they are its cube, and it occurs
pub false_occurs : (n : ℕ) (s : StackTable) (c : List ℕ) (clause : List ℤ) → All (IsLiteral n) clause
    → 0 < length clause → ((l : ℤ) → Contains clause l → IsFalse (current s c) l)
    → Falsifies clause (current_cube s c n clause) × Occurs s c (current_cube s c n clause)
false_occurs n s c clause literals some none = (
  false_cube (current s c) n clause some
      (λ l has. falsifier_below n l (subst (IsLiteral n) has.2 (literals has.0 l has.1))) none,
  values_occur s c (filter (names_variable clause) (range_with_len 0 n)),
)

-- the law
pub printed_satisfies : (f : Cnf) (events : List (ℕ × Cube)) (s : StackTable) (c : List ℕ)
    → AreLiterals f.variables f.clauses → first_empty f ≡ None → AreEventsOf f.clauses events
    → length c ≡ f.variables → HaveBits f.variables s c → IsFinished (instance_over s events) c
    → All (λ clause. IsSatisfied (words_at s c) clause) f.clauses
printed_satisfies f events s c literals full are size bits finished k d within =
    let clause : List ℤ = get_or f.clauses k d in
    let at : slice_get f.clauses k ≡ Some clause = slice_get-get_or f.clauses k d within in
    elim (printed_or_false f.variables s c clause (literals k d within) size bits) [
      | inl satisfied ↦ satisfied
      | inr none ↦
          let (cube, occurs) =
          false_occurs f.variables s c clause (literals k d within) (not_empty 0 f.clauses k clause full at) none in
          absurd (none_occurs s c f.clauses events (current_cube s c f.variables clause) are finished occurs
          (suc (suc k)) (suc k) (omega arith) (k, clause, refl, at, cube))
    ]
