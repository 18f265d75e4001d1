-- Numbers differ just where they rise once they are sorted. Where the digests of rows under rising numbers differ, so do
-- the cubes, and all the rows are kept.
use Rattle.std.proofs.Common.{inl, inr, ◌≡◌, ◌≢◌, ◌↔◌, ℕ, ◌+◌, ◌<◌, Bool, true, false, List, [], map, get_or, refl, sym, ap, subst, ◌∙◌, arith, AllPairs, Contains, IsPermutation, ltb}
use Rattle.std.specs.List.{IsAllAdjacentAnswer}
use Rattle.std.specs.List.Sorted.{IsStrictlyIncreasing, IsNonDecreasing}
use Rattle.std.proofs.lemmas.Bool.{cases_order, ltb-true, ltb-false, true≢false}
use Rattle.std.proofs.lemmas.List.{length-map, get_or-map, get_or_default}
use Rattle.std.proofs.lemmas.List.Kept.{AllPairs-from_increasing}
use Rattle.std.proofs.lemmas.List.Sorted.{IsPermutation-sym}
use Rattle.pop_model.specs.Popping.{Cube}
use Rattle.pop_instance.specs.Digests.{digest}
use Rattle.pop_instance.specs.Gathering.{KeepsFirst}
use Rattle.pop_instance.proofs.PermutedPairs.{pairs_permuted}

-- numbers in two lists differ in one as in the other, where the lists have the same members
differ_permuted : (xs ys : List ℕ) → IsPermutation xs ys → AllPairs (λ x y. x ≢ y) xs → AllPairs (λ x y. x ≢ y) ys
differ_permuted xs ys = pairs_permuted (λ x y. x ≢ y) (λ x y differ same. differ (sym same)) xs ys

-- numbers that rise in some order differ
pub rising_differ : (xs ys : List ℕ) → IsPermutation xs ys → IsStrictlyIncreasing ys → AllPairs (λ x y. x ≢ y) xs
rising_differ xs ys moved rising =
    let differ : AllPairs (λ (x y : ℕ). x ≢ y) ys = λ i j d less inside same.
    let step = AllPairs-from_increasing ys rising i j d less inside in
    omega (arith, step, same) in
    differ_permuted ys xs (IsPermutation-sym xs ys moved) differ

-- sorted numbers that differ in some order rise
pub differ_rising : (xs ys : List ℕ) → IsPermutation xs ys → IsNonDecreasing ys → AllPairs (λ x y. x ≢ y) xs
    → IsStrictlyIncreasing ys
differ_rising xs ys moved order differ k inside =
    let apart = differ_permuted xs ys moved differ k (k + 1) 0 (omega arith) inside in
    let most = order k (k + 1) 0 (omega arith) inside in
    omega (arith, apart, most)

-- neighbours are tested
pub tested_rise : (ys : List ℕ) (r : Bool) → IsAllAdjacentAnswer (λ x y b. b ≡ ltb x y) ys r
    → (r ≡ true) ↔ IsStrictlyIncreasing ys
tested_rise ys true all = (λ yes k inside. ltb-true (get_or ys k 0) (get_or ys (k + 1) 0) (sym (all k 0 inside)), λ rising. refl)
tested_rise ys false some = (
  λ no. absurd (true≢false (sym no)),
  λ rising.
      let most = ltb-false (get_or ys some.0 0) (get_or ys (some.0 + 1) 0) (sym (some.2 0)) in
      let less = rising some.0 some.1 in
      absurd (omega (arith, most, less)),
)

-- rows whose digests differ
abbrev pub HaveDifferentDigests : List (ℕ × Cube) → Type 0
HaveDifferentDigests rows = AllPairs (λ r q. digest r.1 ≢ digest q.1) rows

-- they are the rows of which the list of digests has different numbers
pub listed_differ : (rows : List (ℕ × Cube)) → AllPairs (λ x y. x ≢ y) (map (λ r. digest r.1) rows)
    ↔ HaveDifferentDigests rows
listed_differ rows =
    let f : ℕ × Cube → ℕ = λ r. digest r.1 in
    let size = length-map rows f in (
      λ differ i j d less inside same.
          let at_i = get_or-map f rows i d 0 (omega arith) in
          let at_j = get_or-map f rows j d 0 inside in
          differ i j 0 less (omega (arith, size)) (at_i ∙ same ∙ sym at_j),
      λ differ i j x less inside same.
          let d : ℕ × Cube = (0, []) in
          let at_i = get_or-map f rows i d x (omega (arith, size)) in
          let at_j = get_or-map f rows j d x (omega (arith, size)) in
          differ i j d less (omega (arith, size)) (sym at_i ∙ same ∙ at_j),
    )

-- the digests differ just where they rise once they are sorted, as neighbours are tested
pub differ_tested : (rows : List (ℕ × Cube)) (xs ys : List ℕ) (r : Bool) → xs ≡ map (λ q. digest q.1) rows
    → IsPermutation xs ys → IsNonDecreasing ys → IsAllAdjacentAnswer (λ x y b. b ≡ ltb x y) ys r
    → (r ≡ true) ↔ HaveDifferentDigests rows
differ_tested rows xs ys r is moved order tested =
    let test = tested_rise ys r tested in
    let listed = listed_differ rows in (
      λ yes. listed.0 (subst (AllPairs (λ (x y : ℕ). x ≢ y)) is (rising_differ xs ys moved (test.0 yes))),
      λ differ. test.1 (differ_rising xs ys moved order (subst (AllPairs (λ (x y : ℕ). x ≢ y)) (sym is) (listed.1 differ))),
    )

-- where the digests differ, each cube stands under one number
one_number : (rows : List (ℕ × Cube)) → HaveDifferentDigests rows → (m n : ℕ) (e : Cube) → m < n
    → Contains rows (m, e) → Contains rows (n, e) → ⊥
one_number rows differ m n e less (i, inside_i, at_i) (j, inside_j, at_j) =
    let d : ℕ × Cube = (0, []) in
    let first : get_or rows i d ≡ (m, e) = get_or_default rows i d (m, e) inside_i ∙ at_i in
    let second : get_or rows j d ≡ (n, e) = get_or_default rows j d (n, e) inside_j ∙ at_j in
    let same : digest (get_or rows i d).1 ≡ digest (get_or rows j d).1 =
    ap (λ (r : ℕ × Cube). digest r.1) first ∙ sym (ap (λ (r : ℕ × Cube). digest r.1) second) in
    elim (cases_order i j) [
      | inl here ↦
          let number : m ≡ n = ap (λ (r : ℕ × Cube). r.0) (sym first ∙ ap (λ k. get_or rows k d) here ∙ second) in
          absurd (omega (arith, number, less))
      | inr (inl before) ↦ absurd (differ i j d before inside_j same)
      | inr (inr behind) ↦ absurd (differ j i d behind inside_i (sym same))
    ]

-- so all are kept
pub differ_kept : (rows : List (ℕ × Cube)) → IsStrictlyIncreasing (map (λ r. r.0) rows) → HaveDifferentDigests rows
    → KeepsFirst rows rows
differ_kept rows rising differ = record {
  rising = rising;
  exact = λ n e. (λ has. (has, λ m less again. one_number rows differ m n e less again has), λ (has, least). has);
}
