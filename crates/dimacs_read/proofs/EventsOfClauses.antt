-- The events of a formula, clause by clause.
-- The rows so far are the cubes of the clauses so far, each under the number of its clause. One clause more adds its
-- cube, if it has one: it is the only cube of that clause, since two cubes with the same members are the same. Of all
-- rows the first of equal cubes are kept, which are the events.
use Rattle.std.proofs.Common.{inl, inr, ◌≡◌, ◌↔◌, ℕ, ◌+◌, ◌<◌, ◌≤◌, ℤ, List, [], ◌∷◌, ◌++◌, length, map, get_or, slice_index, Contains, Some, slice_get, sym, ap, ap₂, subst, ◌∙◌, arith}
use Rattle.std.specs.List.Sorted.{IsStrictlyIncreasing}
use Rattle.std.proofs.lemmas.Bool.{cases_lt}
use Rattle.std.proofs.lemmas.List.{get_or_append_left, get_or_push, length_push, map_push, get_or-map, length-map}
use Rattle.std.proofs.lemmas.List.Elements.{Contains-append_left, Contains-get_or, Contains-push, Contains-push_cases}
use Rattle.std.proofs.lemmas.Option.{slice_get_within}
use Rattle.pop_model.specs.Popping.{Cube}
use Rattle.pop_model.proofs.Rising.{same_rising}
use Rattle.pop_instance.specs.Gathering.{KeepsFirst}
use Rattle.dimacs_read.specs.Falsifying.{AreEventsOf, Falsifies, HasCube}

-- the rows of the first so many clauses
pub record AreRowsOf (clauses : List (List ℤ)) (count : ℕ) (rows : List (ℕ × Cube)) : Type 0 where
  pub rising : IsStrictlyIncreasing (map (λ r. r.0) rows)
  pub few : length rows ≤ count
  pub exact : (n : ℕ) (e : Cube) → Contains rows (n, e) ↔ (HasCube clauses n e × (n ≤ count))

-- a clause has one cube at most
one_cube : (clause : List ℤ) (e f : Cube) → Falsifies clause e → Falsifies clause f → e ≡ f
one_cube clause e f a b =
    same_rising (λ (p : ℕ × ℕ). p.0) e f a.cube.rising b.cube.rising
    (λ p h. (b.same p).1 ((a.same p).0 h)) (λ p h. (a.same p).1 ((b.same p).0 h))

-- a greater number at the end
rising_push : (xs : List ℕ) (n : ℕ) → IsStrictlyIncreasing xs → ((k : ℕ) → k < length xs → slice_index xs k < n)
    → IsStrictlyIncreasing (xs ++ n ∷ [])
rising_push xs n rising below k within =
    let size : length (xs ++ n ∷ []) ≡ length xs + 1 = length_push xs n in
    let here : slice_index (xs ++ n ∷ []) k ≡ slice_index xs k = get_or_append_left xs (n ∷ []) 0 k (omega arith) in
    elim (cases_lt (k + 1) (length xs)) [
      | inl inside ↦
          let next : slice_index (xs ++ n ∷ []) (k + 1) ≡ slice_index xs (k + 1) =
          get_or_append_left xs (n ∷ []) 0 (k + 1) inside in
          let up = rising k inside in
          omega arith
      | inr last ↦
          let next : slice_index (xs ++ n ∷ []) (k + 1) ≡ n = get_or_push xs n 0 (k + 1) (omega arith) in
          let up = below k (omega arith) in
          omega arith
    ]

-- the clause of this number, from 1
clause_is : (clauses : List (List ℤ)) (i n : ℕ) (e : Cube) (clause : List ℤ) → slice_get clauses i ≡ Some clause
    → n ≡ i + 1 → HasCube clauses n e → Falsifies clause e
clause_is clauses i n e clause at number has =
    let place : has.0 ≡ i = omega (arith, has.2) in
    let both : Some has.1 ≡ Some clause = sym has.3 ∙ ap (slice_get clauses) place ∙ at in
    let same : has.1 ≡ clause = cc in
    subst (λ c. Falsifies c e) same has.4

-- a clause more that has no cube
pub rows_same : (clauses : List (List ℤ)) (i : ℕ) (clause : List ℤ) (rows : List (ℕ × Cube)) → AreRowsOf clauses i rows
    → slice_get clauses i ≡ Some clause → ((e : Cube) → Falsifies clause e → ⊥) → AreRowsOf clauses (i + 1) rows
rows_same clauses i clause rows r at none =
    record {
      rising = r.rising;
      few = omega (arith, r.few);
      exact = λ n e. (
        λ h. let old = (r.exact n e).0 h in (old.0, omega (arith, old.1)),
        λ h. elim (cases_lt n (i + 1)) [
          | inl before ↦ (r.exact n e).1 (h.0, omega arith)
          | inr here ↦ absurd (none e (clause_is clauses i n e clause at (omega (arith, here, h.1)) h.0))
        ],
      );
    }

-- the numbers so far are below the next
numbers_below : (clauses : List (List ℤ)) (i : ℕ) (rows : List (ℕ × Cube)) → AreRowsOf clauses i rows → (k : ℕ)
    → k < length (map (λ r. r.0) rows) → slice_index (map (λ r. r.0) rows) k < i + 1
numbers_below clauses i rows r k within =
    let size : length (map (λ (r : ℕ × Cube). r.0) rows) ≡ length rows = length-map rows (λ (r : ℕ × Cube). r.0) in
    let d : ℕ × Cube = (0, []) in
    let inside : k < length rows = omega arith in
    let row : ℕ × Cube = get_or rows k d in
    let number : slice_index (map (λ (r : ℕ × Cube). r.0) rows) k ≡ row.0 =
    get_or-map (λ (r : ℕ × Cube). r.0) rows k d 0 inside in
    let known = (r.exact row.0 row.1).0 (Contains-get_or rows k d inside) in
    omega (arith, number, known.1)

-- a clause more with its cube
pub rows_more : (clauses : List (List ℤ)) (i : ℕ) (clause : List ℤ) (rows rows' : List (ℕ × Cube)) (e : Cube)
    → AreRowsOf clauses i rows → slice_get clauses i ≡ Some clause → Falsifies clause e
    → rows' ≡ rows ++ (i + 1, e) ∷ []
    → AreRowsOf clauses (i + 1) rows'
rows_more clauses i clause rows rows' e r at f is = subst (AreRowsOf clauses (i + 1)) (sym is) (record {
  rising =
      subst IsStrictlyIncreasing (sym (map_push (λ (r : ℕ × Cube). r.0) rows (i + 1, e)))
      (rising_push (map (λ (r : ℕ × Cube). r.0) rows) (i + 1) r.rising (numbers_below clauses i rows r));
  few = omega (arith, r.few, length_push rows (i + 1, e));
  exact = λ n g. (
    λ h. elim (Contains-push_cases rows (i + 1, e) (n, g) h) [
      | inl old ↦ (let known = (r.exact n g).0 old in (known.0, omega (arith, known.1)))
      | inr new ↦
          let Has : ℕ × Cube → Type 0 = λ p. HasCube clauses p.0 p.1 × (p.0 ≤ i + 1) in
          subst Has new ((i, clause, omega arith, at, f), omega arith)
    ],
    λ h. elim (cases_lt n (i + 1)) [
      | inl before ↦ Contains-append_left rows ((i + 1, e) ∷ []) (n, g) ((r.exact n g).1 (h.0, omega arith))
      | inr last ↦
          let here : n ≡ i + 1 = omega (arith, last, h.1) in
          let same : e ≡ g = one_cube clause e g f (clause_is clauses i n g clause at here h.0) in
          let row : (i + 1, e) ≡ (n, g) = ap₂ (λ (m : ℕ) (x : Cube). (m, x)) (sym here) same in
          subst (Contains (rows ++ (i + 1, e) ∷ [])) row (Contains-push rows (i + 1, e))
    ],
  );
})

-- the first of equal cubes are the events
pub events_of : (clauses : List (List ℤ)) (count : ℕ) (rows kept : List (ℕ × Cube)) → AreRowsOf clauses count rows
    → length clauses ≤ count → KeepsFirst rows kept → AreEventsOf clauses kept
events_of clauses count rows kept r all k =
    record {
      rising = k.rising;
      exact = λ n e. (
        λ h. let first = (k.exact n e).0 h in (to n e first.0, λ m less has. first.1 m less (from m e has)),
        λ h. (k.exact n e).1 (from n e h.0, λ m less row. h.1 m less (to m e row)),
      );
    }
  where
    to : (n : ℕ) (e : Cube) → Contains rows (n, e) → HasCube clauses n e
    to n e row = ((r.exact n e).0 row).0

    from : (n : ℕ) (e : Cube) → HasCube clauses n e → Contains rows (n, e)
    from n e has = (r.exact n e).1 (has, omega (arith, has.2, slice_get_within clauses has.0 has.1 has.3, all))
