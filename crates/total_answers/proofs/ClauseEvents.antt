-- The events of a formula: the pairs that falsify the literals of a clause are those of a cube, unless two of them
-- demand different values of one variable; and the first clause that has a cube has its number.
use Rattle.std.proofs.Common.{inl, inr, ◌≡◌, ◌≢◌, ◌⊎◌, ℕ, zero, suc, ◌+◌, ◌<◌, ℤ, List, [], ◌∷◌, length, map, get_or, slice_get, refl, sym, ap, ap₂, subst, ◌∙◌, arith, Contains}
use Rattle.std.proofs.lemmas.Bool.{cases_eq}
use Rattle.std.proofs.lemmas.List.Elements.{Contains-get_or}
use Rattle.std.proofs.lemmas.Option.{none-some, same_Some, slice_get_within}
use Rattle.pop_model.specs.Popping.{Cube, IsCube}
use Rattle.pop_model.proofs.Following.{rising_demand}
use Rattle.pop_model.proofs.Rising.{head_member, none_in, same_rising}
use Rattle.dimacs_read.specs.Falsifying.{falsifier, Falsifies, HasCube, AreEventsOf}
use Rattle.prs_rounds.proofs.ClosedSets.{IsDecided, decide_both, some_below}
use Rattle.total_answers.proofs.Deciding.{Finds, cases_option, keys_below, same_lists, same_pair, some_member}
use Rattle.total_answers.proofs.Numbered.{listed}

-- two pairs of a list demand different values of one variable
abbrev Differ : Cube → ℕ × ℕ → ℕ × ℕ → Type 0
Differ pairs p q = Contains pairs q × (p.0 ≡ q.0) × (p.1 ≢ q.1)

-- it is found whether two do
differing : (pairs : Cube)
    → ((p : ℕ × ℕ) × Contains pairs p × ((q : ℕ × ℕ) × Differ pairs p q))
    ⊎ ((p : ℕ × ℕ) → Contains pairs p → ((q : ℕ × ℕ) × Differ pairs p q) → ⊥)
differing pairs = some_member (λ p. (q : ℕ × ℕ) × Differ pairs p q) pairs (λ p. elim (some_member
    (λ (q : ℕ × ℕ). (p.0 ≡ q.0) × (p.1 ≢ q.1)) pairs
    (λ q. decide_both (p.0 ≡ q.0) (p.1 ≢ q.1) (cases_eq p.0 q.0) (other p q))) [
      | inl (q, has, (same, differ)) ↦ inl (q, (has, same, differ))
      | inr none ↦ inr (λ (q, (has, same, differ)). none q has (same, differ))
    ])
  where
    other : (p q : ℕ × ℕ) → IsDecided (p.1 ≢ q.1)
    other p q = elim (cases_eq p.1 q.1) [ inl same ↦ inr (λ differ. differ same) | inr differ ↦ inl differ ]

-- a cube demands one value of a variable
one_demand : (e : Cube) → IsCube e → (p q : ℕ × ℕ) → Contains e p → Contains e q → p.0 ≡ q.0 → p.1 ≡ q.1
one_demand e cube p q has has' same =
    same_Some p.1 q.1 (sym (rising_demand e p.0 p.1 cube.rising has)
    ∙ rising_demand e p.0 q.1 cube.rising (subst (λ v. Contains e (v, q.1)) (sym same) has'))

-- a clause has a cube, or none
cube_of : (clause : List ℤ) → Finds (Falsifies clause)
cube_of [] = inr (λ e f.
    let p : ℕ × ℕ = get_or e 0 (0, 0) in none_in p ((f.same p).0 (Contains-get_or e 0 (0, 0) f.cube.some)))
cube_of (l ∷ clause) =
    let pairs : Cube = map falsifier (l ∷ clause) in
    elim (differing pairs) [
      | inl (p, has, (q, (has', same, differ))) ↦
          inr (λ e f. differ (one_demand e f.cube p q ((f.same p).1 has) ((f.same q).1 has') same))
      | inr none ↦
          let one : (p q : ℕ × ℕ) → Contains pairs p → Contains pairs q → p.0 ≡ q.0 → p ≡ q = λ p q has has' same.
          elim (cases_eq p.1 q.1) [
            | inl value ↦ ap₂ (λ (m n : ℕ). (m, n)) same value
            | inr differ ↦ absurd (none p has (q, (has', same, differ)))
          ] in
          let key : ℕ × ℕ → ℕ = λ p. p.0 in
          let low = keys_below key pairs in
          let all = listed key (Contains pairs) one (λ k. elim (some_member (λ (p : ℕ × ℕ). p.0 ≡ k) pairs
          (λ p. cases_eq p.0 k)) [
            | inl (p, has, at) ↦ inl (p, (has, at))
            | inr none ↦ inr (λ p (has, at). none p has at)
          ]) low.0 in
          let first : ℕ × ℕ = falsifier l in
          let there : Contains all.0 first =
          (all.1.exact first).1 (
            head_member first (map falsifier clause),
            low.1 first (head_member first (map falsifier clause)),
          ) in
          inl (
            all.0,
            record {
              cube = record { some = (let (k, within, at) = there in omega (arith, within)); rising = all.1.rising };
              same = λ p. (λ has. ((all.1.exact p).0 has).0, λ has. (all.1.exact p).1 (has, low.1 p has));
            },
          )
    ]

-- two cubes of a clause are one
same_cube : (clause : List ℤ) (e f : Cube) → Falsifies clause e → Falsifies clause f → e ≡ f
same_cube clause e f is is' =
    same_rising (λ (p : ℕ × ℕ). p.0) e f is.cube.rising is'.cube.rising (λ p has. (is'.same p).1 ((is.same p).0 has))
    (λ p has. (is.same p).1 ((is'.same p).0 has))

-- the clause of a number has a cube, or none
cube_at : (clauses : List (List ℤ)) (n : ℕ) → Finds (HasCube clauses n)
cube_at clauses zero = inr (λ e (k, clause, is, at, f). absurd (omega (arith, is)))
cube_at clauses (suc k) = elim (cases_option (slice_get clauses k)) [
  | inl past ↦ inr (λ e (j, clause, is, at, f).
      let same : j ≡ k = omega (arith, is) in
      none-some clause (sym past ∙ ap (slice_get clauses) (sym same) ∙ at))
  | inr (clause, at) ↦ elim (cube_of clause) [
    | inl (e, f) ↦ inl (e, (k, clause, refl, at, f))
    | inr none ↦ inr (λ e (j, other, is, at', f).
        let same : j ≡ k = omega (arith, is) in
        let clauses' : other ≡ clause = same_Some other clause (sym at' ∙ ap (slice_get clauses) same ∙ at) in
        none e (subst (λ (c : List ℤ). Falsifies c e) clauses' f))
  ]
]

-- which is one
one_cube_at : (clauses : List (List ℤ)) (n : ℕ) (e f : Cube) → HasCube clauses n e → HasCube clauses n f → e ≡ f
one_cube_at clauses n e f (k, clause, is, at, falsifies) (j, other, is', at', falsifies') =
    let same : k ≡ j = omega (arith, is, is') in
    let clauses' : clause ≡ other = same_Some clause other (sym at ∙ ap (slice_get clauses) same ∙ at') in
    same_cube other e f (subst (λ (c : List ℤ). Falsifies c e) clauses' falsifies) falsifies'

-- the first clause that has this cube has this number
abbrev IsFirst : List (List ℤ) → ℕ × Cube → Type 0
IsFirst clauses r = HasCube clauses r.0 r.1 × ((m : ℕ) → m < r.0 → HasCube clauses m r.1 → ⊥)

-- the number of a clause with a cube is one of theirs
number_below : (clauses : List (List ℤ)) (n : ℕ) (e : Cube) → HasCube clauses n e → n < length clauses + 1
number_below clauses n e (k, clause, is, at, f) =
    let within = slice_get_within clauses k clause at in omega (arith, is, within)

-- whether some clause is the first with its cube
find_first : (clauses : List (List ℤ)) (k : ℕ) → Finds (λ (r : ℕ × Cube). IsFirst clauses r × (r.0 ≡ k))
find_first clauses k = elim (cube_at clauses k) [
  | inr none ↦ inr (λ r (first, at). none r.1 (subst (λ (n : ℕ). HasCube clauses n r.1) at first.0))
  | inl (e, has) ↦ elim (some_below (λ m. HasCube clauses m e) k (λ m less. decide m e)) [
    | inr none ↦ inl ((k, e), ((has, none), refl))
    | inl (m, less, before) ↦ inr (λ r (first, at).
        let same : r.1 ≡ e = one_cube_at clauses k r.1 e (subst (λ (n : ℕ). HasCube clauses n r.1) at first.0) has in
        first.1 m (omega (arith, less, at)) (subst (HasCube clauses m) (sym same) before))
  ]
]
  where
    decide : (m : ℕ) (e : Cube) → IsDecided (HasCube clauses m e)
    decide m e = elim (cube_at clauses m) [
      | inr none ↦ inr (none e)
      | inl (f, has) ↦ elim (same_lists same_pair f e) [
        | inl same ↦ inl (subst (HasCube clauses m) same has)
        | inr other ↦ inr (λ has'. other (one_cube_at clauses m f e has has'))
      ]
    ]

-- so a formula has events
pub clause_events : (clauses : List (List ℤ)) → (rows : List (ℕ × Cube)) × AreEventsOf clauses rows
clause_events clauses =
    let key : ℕ × Cube → ℕ = λ r. r.0 in
    let one : (r q : ℕ × Cube) → IsFirst clauses r → IsFirst clauses q → r.0 ≡ q.0 → r ≡ q = λ r q first first' same.
    ap₂ (λ (n : ℕ) (e : Cube). (n, e)) same
    (one_cube_at clauses q.0 r.1 q.1 (subst (λ (n : ℕ). HasCube clauses n r.1) same first.0) first'.0) in
    let all = listed key (IsFirst clauses) one (find_first clauses) (length clauses + 1) in (
      all.0,
      record {
        rising = all.1.rising;
        exact = λ n e. (
          λ has. ((all.1.exact (n, e)).0 has).0,
          λ first. (all.1.exact (n, e)).1 (first, number_below clauses n e first.0),
        );
      },
    )
