-- Rows under rising numbers, sorted by cube and then by number, of which the first of each run of one cube is kept,
-- sorted by number again: they are the rows whose cube no row of lesser number has, by rising number.
use Rattle.std.proofs.Common.{◌≡◌, ◌≢◌, ℕ, ◌+◌, ◌<◌, List, [], length, map, get_or, sym, subst, arith, All, AllPairs, Contains, is_lt, IsPermutation, IsSortedBy}
use Rattle.std.specs.List.{dedup}
use Rattle.std.specs.List.Sorted.{IsStrictlyIncreasing, IsNonDecreasingBy}
use Rattle.std.proofs.lemmas.List.{length-map, get_or-map}
use Rattle.std.proofs.lemmas.List.Elements.{Contains-get_or}
use Rattle.std.proofs.lemmas.List.Kept.{AllPairs-from_increasing}
use Rattle.std.proofs.lemmas.List.Sorted.{IsPermutation-sym, Contains-permutation}
use Rattle.pop_model.specs.Popping.{Cube, IsCube}
use Rattle.pop_model.specs.Families.{AreEvents}
use Rattle.pop_instance.specs.Gathering.{KeepsFirst}
use Rattle.pop_instance.proofs.PermutedPairs.{pairs_permuted}
use Rattle.pop_instance.proofs.FirstOfEach.{row_cmp, same_cube, sorted_in_turn, kept_exactly, pairs_kept}

-- rows under different numbers
abbrev Apart : ℕ × Cube → ℕ × Cube → Type 0
Apart r q = r.0 ≢ q.0

-- what each of the three steps leaves
pub record AreSteps (rows sorted kept : List (ℕ × Cube)) : Type 0 where
  pub sorts : IsPermutation rows sorted
  pub in_order : IsSortedBy (λ r q. is_lt (row_cmp r q)) sorted
  pub sorts_back : IsPermutation (dedup same_cube sorted) kept
  pub by_number : IsNonDecreasingBy (λ r. r.0) kept

-- rising numbers are different
rising_apart : (rows : List (ℕ × Cube)) → IsStrictlyIncreasing (map (λ r. r.0) rows) → AllPairs Apart rows
rising_apart rows rising i j d less inside same =
    let size = length-map rows (λ (r : ℕ × Cube). r.0) in
    let at_i = get_or-map (λ (r : ℕ × Cube). r.0) rows i d 0 (omega arith) in
    let at_j = get_or-map (λ (r : ℕ × Cube). r.0) rows j d 0 inside in
    let step = AllPairs-from_increasing (map (λ (r : ℕ × Cube). r.0) rows) rising i j 0 less (omega arith) in
    absurd (omega (arith, at_i, at_j, step, same))

-- different numbers that don't fall rise
apart_rising : (rows : List (ℕ × Cube)) → IsNonDecreasingBy (λ r. r.0) rows → AllPairs Apart rows
    → IsStrictlyIncreasing (map (λ r. r.0) rows)
apart_rising rows by_number apart k inside =
    let size = length-map rows (λ (r : ℕ × Cube). r.0) in
    let d : ℕ × Cube = (0, []) in
    let below : k + 1 < length rows = omega arith in
    let at = get_or-map (λ (r : ℕ × Cube). r.0) rows k d 0 (omega arith) in
    let next = get_or-map (λ (r : ℕ × Cube). r.0) rows (k + 1) d 0 below in
    let most = by_number k (k + 1) d (omega arith) below in
    let differ = apart k (k + 1) d (omega arith) below in
    omega (arith, at, next, most, differ)

module _ (rows sorted kept : List (ℕ × Cube)) (rising : IsStrictlyIncreasing (map (λ r. r.0) rows))
    (steps : AreSteps rows sorted kept) where
  -- the rows that are kept have different numbers
  kept_apart : AllPairs Apart kept
  kept_apart =
      let turns = λ (r q : ℕ × Cube) (differ : Apart r q) (same : q.0 ≡ r.0). differ (sym same) in
      pairs_permuted Apart turns (dedup same_cube sorted) kept steps.sorts_back
      (pairs_kept Apart sorted (pairs_permuted Apart turns rows sorted steps.sorts (rising_apart rows rising)))

  -- the rows are those that were sorted
  to_sorted : (r : ℕ × Cube) → Contains rows r → Contains sorted r
  to_sorted r = Contains-permutation rows sorted r steps.sorts

  -- those that were sorted are the rows
  from_sorted : (r : ℕ × Cube) → Contains sorted r → Contains rows r
  from_sorted r = Contains-permutation sorted rows r (IsPermutation-sym rows sorted steps.sorts)

  -- and what is kept is what the runs begin with
  to_kept : (r : ℕ × Cube) → Contains (dedup same_cube sorted) r → Contains kept r
  to_kept r = Contains-permutation (dedup same_cube sorted) kept r steps.sorts_back

  -- each row that is kept begins a run of its cube
  from_kept : (r : ℕ × Cube) → Contains kept r → Contains (dedup same_cube sorted) r
  from_kept r =
      Contains-permutation kept (dedup same_cube sorted) r
      (IsPermutation-sym (dedup same_cube sorted) kept steps.sorts_back)

  -- so of each cube the row of least number is kept, and the numbers rise
  pub keeps_first : KeepsFirst rows kept
  keeps_first = record {
    rising = apart_rising kept steps.by_number kept_apart;
    exact = λ n e.
        let exactly = kept_exactly sorted (sorted_in_turn sorted steps.in_order) (n, e) in (
          λ has.
              let first = exactly.0 (from_kept (n, e) has) in
              (from_sorted (n, e) first.there, λ m less again. first.least m less (to_sorted (m, e) again)),
          λ (has, least). to_kept (n, e) (exactly.1 (record {
            there = to_sorted (n, e) has;
            least = λ m less again. least m less (from_sorted (m, e) again);
          })),
        );
  }

-- rows that are kept are events
pub kept_events : (rows kept : List (ℕ × Cube)) → KeepsFirst rows kept → All (λ r. IsCube r.1) kept → AreEvents kept
kept_events rows kept keeps cubes = record {
  rising = keeps.rising;
  different = λ i j d less inside same.
      let r : ℕ × Cube = get_or kept i d in
      let q : ℕ × Cube = get_or kept j d in
      let size = length-map kept (λ (p : ℕ × Cube). p.0) in
      let at_i = get_or-map (λ (p : ℕ × Cube). p.0) kept i d 0 (omega arith) in
      let at_j = get_or-map (λ (p : ℕ × Cube). p.0) kept j d 0 inside in
      let step = AllPairs-from_increasing (map (λ (p : ℕ × Cube). p.0) kept) keeps.rising i j 0 less (omega arith) in
      let here = (keeps.exact r.0 r.1).0 (Contains-get_or kept i d (omega arith)) in
      let there = (keeps.exact q.0 q.1).0 (Contains-get_or kept j d inside) in
      there.1 r.0 (omega (arith, at_i, at_j, step)) (subst (λ e. Contains rows (r.0, e)) same here.0);
  cubes = cubes;
}
