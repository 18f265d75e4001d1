-- Rows that are sorted by cube, and those of one cube by number. Rows of one cube stand together, the one of least number
-- in front. So keeping the first of each run keeps just the rows whose cube no row of lesser number has.
use Rattle.std.proofs.Common.{inl, inr, ◌≡◌, ◌⊎◌, ℕ, zero, suc, ◌<◌, ◌≤◌, Bool, true, false, cond, List, [], ◌∷◌, refl, sym, ap, ap₂, subst, ◌∙◌, arith, All, AllPairs, Contains, Less, Equal, Greater, nat_cmp, is_lt, IsSortedBy}
use Rattle.std.specs.declared.cmp.Ordering.{Ordering}
use Rattle.std.specs.Cmp.{IsTotalOrder}
use Rattle.std.specs.List.{dedup, dedup_from}
use Rattle.std.specs.Ordering.{on, then_cmp, eq_by_cmp, ordering_then, ordering_reverse}
use Rattle.std.proofs.lemmas.Bool.{cases_Bool, cases_lt, false≢true}
use Rattle.std.proofs.lemmas.Cmp.{then_total, on_total, nat_cmp_total}
use Rattle.std.proofs.lemmas.List.Filters.{All-dedup}
use Rattle.std.proofs.lemmas.List.Kept.{AllPairs-cons}
use Rattle.std.proofs.lemmas.List.Sorted.{ranks_by, sorted_far}
use Rattle.std.proofs.lemmas.Map.Keys.{ge_from_not_lt}
use Rattle.pop_model.specs.Popping.{Cube}
use Rattle.pop_model.proofs.Members.{pairs_tail}
use Rattle.pop_instance.specs.Cubes.{cube_cmp, cube_total}
use Rattle.pop_instance.proofs.Order.{cube_ties, cube_ties_itself, cube_eq}

-- the order of rows: by cube, then by number
abbrev pub row_cmp : ℕ × Cube → ℕ × Cube → Ordering
row_cmp r q = then_cmp (on (λ p. p.1) cube_cmp) (on (λ p. p.0) nat_cmp) r q

-- rows with equal cubes
abbrev pub same_cube : ℕ × Cube → ℕ × Cube → Bool
same_cube r q = eq_by_cmp cube_cmp r.1 q.1

-- it is total
pub row_total : IsTotalOrder row_cmp
row_total = then_total (on_total (λ (r : ℕ × Cube). r.1) cube_total)
    (on_total (λ (r : ℕ × Cube). r.0) nat_cmp_total)

-- q isn't to stand before r
abbrev pub InTurn : ℕ × Cube → ℕ × Cube → Type 0
InTurn r q = is_lt (row_cmp q r) ≡ false

-- sorted rows stand in turn, also those that aren't neighbours
pub sorted_in_turn : (rows : List (ℕ × Cube)) → IsSortedBy (λ r q. is_lt (row_cmp r q)) rows → AllPairs InTurn rows
sorted_in_turn rows sorted i j d less inside =
    sorted_far (λ r q. is_lt (row_cmp r q)) (ranks_by row_total (λ (r : ℕ × Cube). r)) rows sorted i j d (omega arith)
    inside

-- of one cube the one in front has no greater number
pub in_turn_number : (r q : ℕ × Cube) → InTurn r q → r.1 ≡ q.1 → r.0 ≤ q.0
in_turn_number r q turn same =
    let ties : cube_cmp q.1 r.1 ≡ Equal = ap (cube_cmp q.1) same ∙ cube_ties_itself q.1 in
    ge_from_not_lt q.0 r.0 (sym (ap (λ o. is_lt (ordering_then o (nat_cmp q.0 r.0))) ties) ∙ turn)

-- a row that isn't to stand before another has no lesser cube
cube_not_less : (o p : Ordering) → is_lt (ordering_then o p) ≡ false → o ≡ Less → ⊥
cube_not_less Less p h is = false≢true (sym h)
cube_not_less Equal p h is = cc
cube_not_less Greater p h is = cc

-- where neither of two cubes is less, they tie
tied : (o p : Ordering) → o ≡ ordering_reverse p → (o ≡ Less → ⊥) → (p ≡ Less → ⊥) → o ≡ Equal
tied Less p turn no_o no_p = absurd (no_o refl)
tied Equal p turn no_o no_p = refl
tied Greater Less turn no_o no_p = absurd (no_p refl)
tied Greater Equal turn no_o no_p = cc
tied Greater Greater turn no_o no_p = cc

-- what stands between rows of one cube has that cube
pub in_turn_between : (r p q : ℕ × Cube) → InTurn r p → InTurn p q → r.1 ≡ q.1 → p.1 ≡ r.1
in_turn_between r p q first second same =
    let low : cube_cmp p.1 r.1 ≡ Less → ⊥ = cube_not_less (cube_cmp p.1 r.1) (nat_cmp p.0 r.0) first in
    let high : cube_cmp r.1 p.1 ≡ Less → ⊥ = λ less. cube_not_less (cube_cmp q.1 p.1) (nat_cmp q.0 p.0) second
    (ap (λ e. cube_cmp e p.1) (sym same) ∙ less) in
    cube_ties p.1 r.1 (tied (cube_cmp p.1 r.1) (cube_cmp r.1 p.1) (cube_total.antisymm p.1 r.1) low high)

-- the members of a list with one more in front
module _ {X : Type 0} (x : X) (xs : List X) where
  -- the one in front is a member
  pub contains_first : (y : X) → x ≡ y → Contains (x ∷ xs) y
  contains_first y is = (0, omega arith, is)

  -- each member of the rest is one
  pub contains_later : (y : X) → Contains xs y → Contains (x ∷ xs) y
  contains_later y (k, inside, is) = (suc k, omega (arith, inside), is)

  -- there is no other member
  pub contains_cases : (y : X) → Contains (x ∷ xs) y → (x ≡ y) ⊎ Contains xs y
  contains_cases y (zero, inside, is) = inl is
  contains_cases y (suc k, inside, is) = inr (k, omega (arith, inside), is)

-- the row is there, and none of its cube has a lesser number
pub record IsFirst (rows : List (ℕ × Cube)) (r : ℕ × Cube) : Type 0 where
  pub there : Contains rows r
  pub least : (m : ℕ) → m < r.0 → Contains rows (m, r.1) → ⊥

-- and of any two without the second
pairs_skip : {X : Type 0} (R : X → X → Type 0) (x y : X) (xs : List X) → AllPairs R (x ∷ y ∷ xs)
    → AllPairs R (x ∷ xs)
pairs_skip R x y xs all zero zero d less inside = absurd (omega arith)
pairs_skip R x y xs all zero (suc j) d less inside = all 0 (suc (suc j)) d (omega arith) (omega arith)
pairs_skip R x y xs all (suc i) zero d less inside = absurd (omega arith)
pairs_skip R x y xs all (suc i) (suc j) d less inside = all (suc (suc i)) (suc (suc j)) d (omega arith) (omega arith)

-- the first stands before each behind it
in_turn_first : (r : ℕ × Cube) (rows : List (ℕ × Cube)) → AllPairs InTurn (r ∷ rows) → (q : ℕ × Cube)
    → Contains rows q → InTurn r q
in_turn_first r rows turns q (k, inside, is) = subst (InTurn r) is (turns 0 (suc k) q (omega arith) (omega arith))

-- the list that keeps r and then goes on
abbrev kept_from : ℕ × Cube → List (ℕ × Cube) → List (ℕ × Cube)
kept_from r rows = dedup_from same_cube r rows

-- a row that is kept is the first of its cube
kept_is_first : (k : ℕ × Cube) (rows : List (ℕ × Cube)) → AllPairs InTurn (k ∷ rows) → (r : ℕ × Cube)
    → Contains (kept_from k rows) r → IsFirst (k ∷ rows) r
kept_is_first k [] turns r has = record {
  there = has;
  least = λ m less again. elim (contains_cases k [] r has) [
    | inr none ↦ absurd (omega (arith, none.1))
    | inl is ↦ elim (contains_cases k [] (m, r.1) again) [
      | inr none ↦ absurd (omega (arith, none.1))
      | inl is' ↦ absurd (omega (arith, less, ap (λ (q : ℕ × Cube). q.0) is, ap (λ (q : ℕ × Cube). q.0) is'))
    ]
  ];
}
kept_is_first k (x ∷ rows) turns r has = elim (cases_Bool (same_cube x k)) [
  | inl same ↦
      -- x goes, since k has its cube and no greater number
      let first = kept_is_first k rows (pairs_skip InTurn k x rows turns) r
      (subst (λ b. Contains (cond b (kept_from k rows) (k ∷ kept_from x rows)) r) same has) in
      record {
        there = elim (contains_cases k rows r first.there) [
          | inl is ↦ contains_first k (x ∷ rows) r is
          | inr later ↦ contains_later k (x ∷ rows) r (contains_later x rows r later)
        ];
        least = λ m less again. elim (contains_cases k (x ∷ rows) (m, r.1) again) [
          | inl is ↦ first.least m less (contains_first k rows (m, r.1) is)
          | inr behind ↦ elim (contains_cases x rows (m, r.1) behind) [
            | inr later ↦ first.least m less (contains_later k rows (m, r.1) later)
            | inl is ↦
                let cube : k.1 ≡ x.1 = sym ((cube_eq x.1 k.1).0 same) in
                let number = in_turn_number k x (in_turn_first k (x ∷ rows) turns x (contains_first x rows x refl)) cube in
                let x_is : x.0 ≡ m = ap (λ (q : ℕ × Cube). q.0) is in
                let k_is : k ≡ (k.0, r.1) = ap (λ (e : Cube). (k.0, e)) (cube ∙ ap (λ (q : ℕ × Cube). q.1) is) in
                first.least k.0 (omega (arith, number, x_is, less)) (contains_first k rows (k.0, r.1) k_is)
          ]
        ];
      }
  | inr other ↦
      let has' : Contains (k ∷ kept_from x rows) r =
      subst (λ b. Contains (cond b (kept_from k rows) (k ∷ kept_from x rows)) r) other has in
      elim (contains_cases k (kept_from x rows) r has') [
        | inl is ↦ record {
          there = contains_first k (x ∷ rows) r is;
          least = λ m less again. elim (contains_cases k (x ∷ rows) (m, r.1) again) [
            | inl is' ↦ absurd (omega (arith, less, ap (λ (q : ℕ × Cube). q.0) is, ap (λ (q : ℕ × Cube). q.0) is'))
            | inr behind ↦
                let number = in_turn_number k (m, r.1) (in_turn_first k (x ∷ rows) turns (m, r.1) behind)
                (ap (λ (q : ℕ × Cube). q.1) is) in
                absurd (omega (arith, number, less, ap (λ (q : ℕ × Cube). q.0) is))
          ];
        }
        | inr later ↦
            let first = kept_is_first x rows (pairs_tail InTurn k (x ∷ rows) turns) r later in
            record {
              there = contains_later k (x ∷ rows) r first.there;
              least = λ m less again. elim (contains_cases k (x ∷ rows) (m, r.1) again) [
                | inr behind ↦ first.least m less behind
                | inl is ↦ absurd (apart k x rows turns r other first.there (ap (λ (q : ℕ × Cube). q.1) is))
              ];
            }
      ]
]
  where
    -- where x has another cube than k, none from x on has that of k
    apart : (k x : ℕ × Cube) (rows : List (ℕ × Cube)) → AllPairs InTurn (k ∷ x ∷ rows) → (r : ℕ × Cube)
        → same_cube x k ≡ false → Contains (x ∷ rows) r → k.1 ≡ r.1 → ⊥
    apart k x rows turns r other there cube =
        let next = in_turn_first k (x ∷ rows) turns x (contains_first x rows x refl) in
        let same : x.1 ≡ k.1 = elim (contains_cases x rows r there) [
          | inl is ↦ ap (λ (q : ℕ × Cube). q.1) is ∙ sym cube
          | inr later ↦ in_turn_between k x r next (in_turn_first x rows (pairs_tail InTurn k (x ∷ rows) turns) r later) cube
        ] in
        false≢true (sym other ∙ (cube_eq x.1 k.1).1 same)

-- the first of a cube is kept
first_is_kept : (k : ℕ × Cube) (rows : List (ℕ × Cube)) → AllPairs InTurn (k ∷ rows) → (r : ℕ × Cube)
    → IsFirst (k ∷ rows) r → Contains (kept_from k rows) r
first_is_kept k [] turns r first = first.there
first_is_kept k (x ∷ rows) turns r first = elim (cases_Bool (same_cube x k)) [
  | inl same ↦
      let inner : IsFirst (k ∷ rows) r = record {
        there = elim (contains_cases k (x ∷ rows) r first.there) [
          | inl is ↦ contains_first k rows r is
          | inr behind ↦ elim (contains_cases x rows r behind) [
            | inr later ↦ contains_later k rows r later
            | inl is ↦ contains_first k rows r (front k x rows turns r same first is)
          ]
        ];
        least = λ m less again. first.least m less (elim (contains_cases k rows (m, r.1) again) [
          | inl is ↦ contains_first k (x ∷ rows) (m, r.1) is
          | inr later ↦ contains_later k (x ∷ rows) (m, r.1) (contains_later x rows (m, r.1) later)
        ]);
      } in
      subst (λ b. Contains (cond b (kept_from k rows) (k ∷ kept_from x rows)) r) (sym same)
      (first_is_kept k rows (pairs_skip InTurn k x rows turns) r inner)
  | inr other ↦
      let kept : Contains (k ∷ kept_from x rows) r = elim (contains_cases k (x ∷ rows) r first.there) [
        | inl is ↦ contains_first k (kept_from x rows) r is
        | inr behind ↦
            let inner : IsFirst (x ∷ rows) r =
            record { there = behind; least = λ m less again. first.least m less (contains_later k (x ∷ rows) (m, r.1) again) } in
            contains_later k (kept_from x rows) r (first_is_kept x rows (pairs_tail InTurn k (x ∷ rows) turns) r inner)
      ] in
      subst (λ b. Contains (cond b (kept_from k rows) (k ∷ kept_from x rows)) r) (sym other) kept
]
  where
    -- a first row with the cube of k is k
    front : (k x : ℕ × Cube) (rows : List (ℕ × Cube)) → AllPairs InTurn (k ∷ x ∷ rows) → (r : ℕ × Cube)
        → same_cube x k ≡ true → IsFirst (k ∷ x ∷ rows) r → x ≡ r → k ≡ r
    front k x rows turns r same first is =
        let cube : k.1 ≡ x.1 = sym ((cube_eq x.1 k.1).0 same) in
        let number = in_turn_number k x (in_turn_first k (x ∷ rows) turns x (contains_first x rows x refl)) cube in
        let x_is : x.0 ≡ r.0 = ap (λ (q : ℕ × Cube). q.0) is in
        let k_is : k ≡ (k.0, r.1) = ap (λ (e : Cube). (k.0, e)) (cube ∙ ap (λ (q : ℕ × Cube). q.1) is) in
        elim (cases_lt k.0 r.0) [
          | inl less ↦ absurd (first.least k.0 less (contains_first k (x ∷ rows) (k.0, r.1) k_is))
          | inr most ↦
              let equal : k.0 ≡ r.0 = omega (arith, number, x_is, most) in
              ap₂ (λ (n : ℕ) (e : Cube). (n, e)) equal (cube ∙ ap (λ (q : ℕ × Cube). q.1) is)
        ]

-- just the rows that are the first of their cubes are kept
pub kept_exactly : (rows : List (ℕ × Cube)) → AllPairs InTurn rows → (r : ℕ × Cube)
    → (Contains (dedup same_cube rows) r → IsFirst rows r) × (IsFirst rows r → Contains (dedup same_cube rows) r)
kept_exactly [] turns r = (λ has. absurd (omega (arith, has.1)), λ first. absurd (omega (arith, first.there.1)))
kept_exactly (k ∷ rows) turns r = (kept_is_first k rows turns r, first_is_kept k rows turns r)

-- what holds of any two rows holds of any two that are kept
pairs_kept_from : (R : ℕ × Cube → ℕ × Cube → Type 0) (k : ℕ × Cube) (rows : List (ℕ × Cube))
    → AllPairs R (k ∷ rows) → AllPairs R (kept_from k rows)
pairs_kept_from R k [] all = all
pairs_kept_from R k (x ∷ rows) all = elim (cases_Bool (same_cube x k)) [
  | inl same ↦ subst (λ b. AllPairs R (cond b (kept_from k rows) (k ∷ kept_from x rows))) (sym same)
      (pairs_kept_from R k rows (pairs_skip R k x rows all))
  | inr other ↦
      let first : All (R k) (x ∷ rows) = λ i d inside. all 0 (suc i) d (omega arith) (omega arith) in
      subst (λ b. AllPairs R (cond b (kept_from k rows) (k ∷ kept_from x rows))) (sym other)
      (AllPairs-cons R k (kept_from x rows) (All-dedup same_cube (R k) (x ∷ rows) first)
      (pairs_kept_from R x rows (pairs_tail R k (x ∷ rows) all)))
]

-- what holds of any two rows holds of any two first ones of their cubes
pub pairs_kept : (R : ℕ × Cube → ℕ × Cube → Type 0) (rows : List (ℕ × Cube)) → AllPairs R rows
    → AllPairs R (dedup same_cube rows)
pairs_kept R [] all = all
pairs_kept R (k ∷ rows) all = pairs_kept_from R k rows all
