-- The least variable at its last entry, and values that are read anew.
use Rattle.std.proofs.Common.{inl, inr, ◌≡◌, ◌≢◌, ◌⊎◌, ℕ, zero, suc, ◌+◌, ◌<◌, ◌≤◌, min, List, [], ◌∷◌, ◌++◌, length, Option, None, Some, MatchOption, sym, ap, subst, ◌∙◌, arith, Contains}
use Rattle.std.specs.Prelude.{slice_index}
use Rattle.std.proofs.lemmas.Bool.{cases_eq, cases_lt}
use Rattle.std.proofs.lemmas.List.Elements.{All-push, All-contains, Contains-push, Contains-push_cases, Contains-append_left}
use Rattle.pop_model.specs.Stacks.{StackTable, height_of, value_at}
use Rattle.pop_model.specs.Popping.{cursor, current}
use Rattle.pop_model.specs.Places.{IsLeast}
use Rattle.confluence_core.specs.Loops.{Raises}
use Rattle.prs_rounds.specs.Values.{AreValues, AreRead}
use Rattle.prs_rounds.specs.Moves.{IsLast, IsLeastShort, Puts}

module _ (s : StackTable) (c : List ℕ) where
  -- a variable that has a next entry changes nothing
  pub short_same : (vs : List ℕ) (least : Option ℕ) (v : ℕ) → IsLeastShort s c vs least → cursor c v + 1 < height_of s v
      → IsLeastShort s c (vs ++ v ∷ []) least
  short_same vs None v all next = All-push (λ w. cursor c w + 1 < height_of s w) vs v all next
  short_same vs (Some w) v short next = record {
    holds = (Contains-append_left vs (v ∷ []) w short.holds.0, short.holds.1);
    none_before = λ m less (has, last). elim (Contains-push_cases vs v m has) [
      | inl before ↦ short.none_before m less (before, last)
      | inr here ↦ let at : cursor c m + 1 < height_of s m = subst (λ x. cursor c x + 1 < height_of s x) here next in
          omega (arith, at, last)
    ];
  }

  -- one that is at its last entry may be the least
  pub short_more : (vs : List ℕ) (least : Option ℕ) (v new : ℕ) → IsLeastShort s c vs least → IsLast s c v
      → MatchOption least (new ≡ v) (λ w. new ≡ min w v) → IsLeastShort s c (vs ++ v ∷ []) (Some new)
  short_more vs None v new all last is = subst (IsLeast (λ w. Contains (vs ++ v ∷ []) w × IsLast s c w)) (sym is)
      (record {
        holds = (Contains-push vs v, last);
        none_before = λ m less (has, last_m). elim (Contains-push_cases vs v m has) [
          | inl before ↦
              let next = All-contains (λ w. cursor c w + 1 < height_of s w) vs m all before in
              omega (arith, next, last_m)
          | inr here ↦ omega (arith, here, less)
        ];
      })
  short_more vs (Some w) v new short last is = elim (cases_lt w v) [
    | inl less_w ↦
        let same : new ≡ w = omega (arith, is, less_w) in
        subst (IsLeast (λ x. Contains (vs ++ v ∷ []) x × IsLast s c x)) (sym same) (record {
          holds = (Contains-append_left vs (v ∷ []) w short.holds.0, short.holds.1);
          none_before = λ m less (has, last_m). elim (Contains-push_cases vs v m has) [
            | inl before ↦ short.none_before m less (before, last_m)
            | inr here ↦ omega (arith, here, less, less_w)
          ];
        })
    | inr not_less ↦
        let same : new ≡ v = omega (arith, is, not_less) in
        subst (IsLeast (λ x. Contains (vs ++ v ∷ []) x × IsLast s c x)) (sym same) (record {
          holds = (Contains-push vs v, last);
          none_before = λ m less (has, last_m). elim (Contains-push_cases vs v m has) [
            | inl before ↦ short.none_before m (omega (arith, less, not_less)) (before, last_m)
            | inr here ↦ omega (arith, here, less)
          ];
        })
  ]

-- a number is one of a list, at a place below its length, or none is
pub place_of : (vs : List ℕ) (n v : ℕ) → n ≤ length vs
    → ((k : ℕ) × (k < n) × (slice_index vs k ≡ v)) ⊎ ((k : ℕ) → k < n → slice_index vs k ≢ v)
place_of vs zero v le = inr (λ k h. absurd (omega arith))
place_of vs (suc n) v le = elim (cases_eq (slice_index vs n) v) [
  | inl here ↦ inl (n, omega arith, here)
  | inr other ↦ elim (place_of vs n v (omega arith)) [
    | inl found ↦ inl (found.0, omega (arith, found.1), found.2)
    | inr none ↦ inr (λ k h same. elim (cases_eq k n) [
      | inl last ↦ other (ap (slice_index vs) (sym last) ∙ same)
      | inr before ↦ none k (omega (arith, h, before)) same
    ])
  ]
]

-- values whose moved variables are read anew are current
pub values_moved : (s : StackTable) (c new : List ℕ) (variables read values after : List ℕ) → AreValues s c values
    → Raises variables (length variables) c new → AreRead s new variables 0 read → length read ≡ length variables
    → Puts variables read (length variables) values after → AreValues s new after
values_moved s c new variables read values after are raises is_read size puts = record {
  count = puts.count ∙ are.count ∙ sym raises.count;
  each = λ v h. elim (place_of variables (length variables) v (omega arith)) [
    | inl at ↦
        let zero_k : 0 + at.0 ≡ at.0 = omega arith in
        ap (slice_index after) (sym at.2) ∙ puts.put at.0 at.1
        ∙ is_read at.0 (omega (arith, at.1, size)) ∙ ap (λ k. current s new (slice_index variables k)) zero_k
        ∙ ap (current s new) at.2
    | inr none ↦
        let below : v < length c = omega (arith, h, raises.count) in
        puts.kept v none ∙ are.each v below ∙ ap (λ k. value_at s v k) (sym (raises.kept v none))
  ];
}
