-- The places of the events that name a variable, event by event.
use Rattle.std.proofs.Common.{inl, inr, ◌≡◌, ℕ, zero, suc, ◌+◌, ◌<◌, ◌≤◌, Bool, true, false, cond, List, [], ◌∷◌, ◌++◌, length, map, filter, Contains, sym, ap, subst, ◌∙◌, arith, add-zero, add-one, zero-add}
use Rattle.std.specs.List.{range_with_len}
use Rattle.std.specs.List.Sorted.{IsStrictlyIncreasing}
use Rattle.std.proofs.lemmas.Bool.{cases_Bool, cases_eq}
use Rattle.std.proofs.lemmas.List.{map-id, append-nil, length_push}
use Rattle.std.proofs.lemmas.List.Elements.{Contains-push, Contains-push_cases, Contains-append_left}
use Rattle.std.proofs.lemmas.List.FromFn.{length-range_with_len, get_or-range_with_len, filter_of_map_range_with_len_more}
use Rattle.std.proofs.lemmas.List.Kept.{IsStrictlyIncreasing-filter}
use Rattle.pop_model.specs.Popping.{Cube, names}
use Rattle.pop_instance.specs.Events.{cube_at}
use Rattle.pop_instance.specs.Index.{places_below}

module _ (rows : List (ℕ × Cube)) (v : ℕ) where
  -- one event more
  pub places_more : (n : ℕ) → places_below rows (n + 1) v
      ≡ places_below rows n v ++ cond (names (cube_at rows n) v) (n ∷ []) []
  places_more n =
      let p : ℕ → Bool = λ place. names (cube_at rows place) v in
      let same : (k : ℕ) → filter p (range_with_len 0 k) ≡ filter p (map (λ (x : ℕ). x) (range_with_len 0 k)) =
      λ k. ap (filter p) (sym (map-id (range_with_len 0 k))) in
      same (n + 1) ∙ filter_of_map_range_with_len_more p (λ (x : ℕ). x) 0 n n (zero-add n)
      ∙ ap (λ xs. xs ++ cond (p n) (n ∷ []) []) (sym (same n))

  -- that names the variable
  pub places_named : (n : ℕ) → names (cube_at rows n) v ≡ true
      → places_below rows (n + 1) v ≡ places_below rows n v ++ n ∷ []
  places_named n is = places_more n ∙ ap (λ b. places_below rows n v ++ cond b (n ∷ []) []) is

  -- or not
  pub places_unnamed : (n : ℕ) → names (cube_at rows n) v ≡ false
      → places_below rows (n + 1) v ≡ places_below rows n v
  places_unnamed n is = places_more n ∙ ap (λ b. places_below rows n v ++ cond b (n ∷ []) []) is
      ∙ append-nil (places_below rows n v)

  -- no fewer with one event more, and at most one more
  places_step : (n : ℕ) → (length (places_below rows n v) ≤ length (places_below rows (n + 1) v))
      × (length (places_below rows (n + 1) v) ≤ length (places_below rows n v) + 1)
  places_step n =
      let push = length_push (places_below rows n v) n in
      elim (cases_Bool (names (cube_at rows n) v)) [
        | inl is ↦ let more = ap length (places_named n is) in (omega (arith, more, push), omega (arith, more, push))
        | inr is ↦ let same = ap length (places_unnamed n is) in (omega (arith, same), omega (arith, same))
      ]

  -- there are at least as many below a greater place
  pub places_grow : (n more : ℕ) → length (places_below rows n v) ≤ length (places_below rows (n + more) v)
  places_grow n zero = omega (arith, ap (λ k. length (places_below rows k v)) (add-zero n))
  places_grow n (suc more) =
      let rest = places_grow n more in
      let step = places_step (n + more) in
      let next : n + more + 1 ≡ n + suc more = omega arith in
      omega (arith, rest, step.0, ap (λ k. length (places_below rows k v)) next)

  -- and no more than events
  pub places_few : (n : ℕ) → length (places_below rows n v) ≤ n
  places_few zero = omega arith
  places_few (suc n) =
      let rest = places_few n in
      let step = places_step n in
      omega (arith, rest, step.1, ap (λ k. length (places_below rows k v)) (add-one n))

  -- they rise
  pub places_rise : (n : ℕ) → IsStrictlyIncreasing (places_below rows n v)
  places_rise n = IsStrictlyIncreasing-filter (λ place. names (cube_at rows place) v) (range_with_len 0 n)
      (λ k inside.
      let size = length-range_with_len 0 n in
      let here = get_or-range_with_len 0 n k 0 (omega arith) in
      let next = get_or-range_with_len 0 n (k + 1) 0 (omega arith) in
      omega (arith, here, next))

  -- and are just those below n whose event names the variable
  pub places_name : (n place : ℕ) → Contains (places_below rows n v) place
      → (place < n) × (names (cube_at rows place) v ≡ true)
  places_name zero place has = absurd (omega (arith, has.1))
  places_name (suc n) place has =
      let has' : Contains (places_below rows (n + 1) v) place =
      subst (λ k. Contains (places_below rows k v) place) (sym (add-one n)) has in
      elim (cases_Bool (names (cube_at rows n) v)) [
        | inl is ↦
            elim (Contains-push_cases (places_below rows n v) n place
            (subst (λ xs. Contains xs place) (places_named n is) has')) [
              | inl before ↦ let old = places_name n place before in (omega (arith, old.0), old.1)
              | inr here ↦ (omega (arith, here), subst (λ k. names (cube_at rows k) v ≡ true) here is)
            ]
        | inr is ↦
            let old = places_name n place (subst (λ xs. Contains xs place) (places_unnamed n is) has') in
            (omega (arith, old.0), old.1)
      ]

  -- each place below n whose event names the variable is among them
  pub named_placed : (n place : ℕ) → place < n → names (cube_at rows place) v ≡ true
      → Contains (places_below rows n v) place
  named_placed zero place below is = absurd (omega arith)
  named_placed (suc n) place below is =
      let has : Contains (places_below rows (n + 1) v) place = elim (cases_eq place n) [
        | inl same ↦
            let named : names (cube_at rows n) v ≡ true = subst (λ k. names (cube_at rows k) v ≡ true) same is in
            subst (λ xs. Contains xs place) (sym (places_named n named))
            (subst (Contains (places_below rows n v ++ n ∷ [])) (sym same) (Contains-push (places_below rows n v) n))
        | inr other ↦
            subst (λ xs. Contains xs place) (sym (places_more n))
            (Contains-append_left (places_below rows n v) (cond (names (cube_at rows n) v) (n ∷ []) []) place
            (named_placed n place (omega arith) is))
      ] in
      subst (λ k. Contains (places_below rows k v) place) (add-one n) has
