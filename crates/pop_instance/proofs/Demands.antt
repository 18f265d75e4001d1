-- Looking a variable up in a cube by halving: the variables rise, so the comparisons with v rise along the cube.
use Rattle.std.proofs.Common.{inl, inr, ◌≡◌, ℕ, ◌≤◌, length, get_or, Some, None, Ok, Err, Result, MatchResult, Equal, nat_cmp, sym, ap, ◌∙◌, arith}
use Rattle.std.specs.Ordering.{ordering_index}
use Rattle.std.specs.List.Sorted.{IsSearchInRange, IsBinarySearchResult, IsNonDecreasingBy}
use Rattle.std.proofs.lemmas.Bool.{cases_lt}
use Rattle.std.proofs.lemmas.Bool.Decides.{nat_tests}
use Rattle.std.proofs.lemmas.List.{length-map}
use Rattle.std.proofs.lemmas.List.Elements.{Contains-get_or}
use Rattle.std.proofs.lemmas.List.Kept.{AllPairs-from_increasing}
use Rattle.std.proofs.lemmas.List.Sorted.{IsNonDecreasingBy-from_default}
use Rattle.pop_model.specs.Popping.{Cube, variables}
use Rattle.pop_model.specs.Cycles.{demand}
use Rattle.pop_model.proofs.Members.{variable_at}
use Rattle.pop_model.proofs.Following.{Rises, cases_Option, demand_contains, rising_demand}
use Rattle.pop_instance.proofs.Order.{nat_ties}

-- the pair at the place that was found is what the cube demands; where none was found it demands nothing
abbrev pub IsFound : Cube → ℕ → Result ℕ ℕ → Type 0
IsFound e v r = MatchResult r (λ place. demand e v ≡ Some (get_or e place (0, 0)).1) (λ place. demand e v ≡ None)

module _ (e : Cube) (rises : Rises e) (v : ℕ) where
  -- the pairs of lesser variables come first, then that of this one, then those of greater ones
  comparisons_rise : IsNonDecreasingBy (λ p. ordering_index (nat_cmp p.0 v)) e
  comparisons_rise = IsNonDecreasingBy-from_default (λ p. ordering_index (nat_cmp p.0 v)) e (0, 0) (λ i j le inside.
      let size : length (variables e) ≡ length e = length-map e (λ (p : ℕ × ℕ). p.0) in
      let at_i = variable_at e i (omega arith) in
      let at_j = variable_at e j inside in
      let rise : (get_or e i (0, 0)).0 ≤ (get_or e j (0, 0)).0 = elim (cases_lt i j) [
        | inl less ↦ let above = AllPairs-from_increasing (variables e) rises i j 0 less (omega arith) in
            omega (arith, above, at_i, at_j)
        | inr same ↦ let equal : i ≡ j = omega arith in
            omega (arith, ap (λ k. (get_or e k (0, 0)).0) equal)
      ] in
      grind (arith, nat_tests))

  -- a search finds the pair of this variable, or that the cube demands nothing of it
  pub searched : (r : Result ℕ ℕ) → IsSearchInRange r (length e) → IsBinarySearchResult (λ p. nat_cmp p.0 v) e r
      → IsFound e v r
  searched (Ok place) inside found =
      let p : ℕ × ℕ = get_or e place (0, 0) in
      let same : p.0 ≡ v = nat_ties p.0 v (found (0, 0)) in
      ap (demand e) (sym same) ∙ rising_demand e p.0 p.1 rises (Contains-get_or e place (0, 0) inside)
  searched (Err gap) inside parted = elim (cases_Option (demand e v)) [
    | inl none ↦ none
    | inr (x, is) ↦
        let has = demand_contains e v x is in
        let ties : nat_cmp (get_or e has.0 (v, x)).0 v ≡ Equal =
        ap (λ (p : ℕ × ℕ). nat_cmp p.0 v) has.2 ∙ grind (arith, nat_tests) in
        absurd (elim (cases_lt has.0 gap) [
          | inl before ↦ let less = (parted comparisons_rise).0 has.0 (v, x) (omega arith) before in cc
          | inr behind ↦ let more = (parted comparisons_rise).1 has.0 (v, x) behind has.1 in cc
        ])
  ]
