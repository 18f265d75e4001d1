-- Stacks are sound, or have a fault at its least place; and samples are few, or too many.
use Rattle.std.proofs.Common.{inl, inr, ◌≡◌, ◌⊎◌, ℕ, ◌*◌, ◌^◌, ◌<◌, ◌≤◌, List, length, slice_index, Option, None, Some, refl, subst, arith}
use Rattle.std.specs.Prelude.{sum}
use Rattle.std.proofs.lemmas.Bool.{cases_eq, cases_lt}
use Rattle.std.proofs.lemmas.Option.{none-some, same_Some}
use Rattle.pop_model.specs.Stacks.{Origin, row_of}
use Rattle.pop_model.specs.Stacks.Origin.{Given, Keyed}
use Rattle.pop_model.specs.Places.{IsLeast}
use Rattle.pop_stacks.specs.Faults.{IsEmptyRow, IsTooLarge, HaveEntries, AreSoundRows, HasSoundRows, IsTooHeavy, IsSound, IsCause}
use Rattle.pop_stacks.specs.declared.stack_fault.StackFault.{StackFault}
use Rattle.pop_stacks.specs.declared.stack_fault.StackFault.TheVariants.{RowCount, EmptyRow, ValueTooLarge, WeightSum}
use Rattle.pop_print.specs.declared.facts.Facts.{Facts}
use Rattle.job_subjects.specs.declared.refusal.Refusal.{Refusal}
use Rattle.job_subjects.specs.declared.refusal.Refusal.TheVariants.{TooMany}
use Rattle.job_subjects.specs.StackFaults.{unsound, AreFew, RefusesStacks}
use Rattle.prs_rounds.proofs.ClosedSets.{IsDecided, decide_both}
use Rattle.total_answers.proofs.Deciding.{decide_lt, decide_le, none_least, least_pair}

-- it is found of each row whether it is empty
decide_empty : (rows : List (List ℕ)) (v : ℕ) → IsDecided (IsEmptyRow rows v)
decide_empty rows v =
    decide_both (v < length rows) (length (row_of rows v) ≡ 0) (decide_lt v (length rows))
    (cases_eq (length (row_of rows v)) 0)

-- and of each entry whether it is too large
decide_large : (rows weights : List (List ℕ)) (v k : ℕ) → IsDecided (IsTooLarge rows weights v k)
decide_large rows weights v k = elim (decide_lt v (length rows)) [
  | inr past ↦ inr (λ h. past h.row)
  | inl row ↦ elim (decide_lt k (length (row_of rows v))) [
    | inr past ↦ inr (λ h. past h.place)
    | inl place ↦ elim (decide_le (length (row_of weights v)) (slice_index (row_of rows v) k)) [
      | inr small ↦ inr (λ h. small h.large)
      | inl large ↦ inl (record { row = row; place = place; large = large })
    ]
  ]
]

-- weights are light, or some are too heavy
heavy_or_light : (origin : Origin) (weights : List (List ℕ)) → HasSoundRows origin weights
    → IsSound origin weights ⊎ ((v : ℕ) × IsCause origin weights (WeightSum v))
heavy_or_light origin weights rows =
    elim (none_least (IsTooHeavy weights) (length weights)
    (λ v. decide_both (v < length weights) (2 ^ 32 ≤ sum (row_of weights v)) (decide_lt v (length weights))
    (decide_le (2 ^ 32) (sum (row_of weights v)))) (λ v h. h.0)) [
      | inl (v, least) ↦ inr (v, by origin rows v least)
      | inr none ↦ inl (record {
        rows = rows;
        light = λ v below. elim (cases_lt (sum (row_of weights v)) (2 ^ 32)) [
          | inl light ↦ light
          | inr heavy ↦ absurd (none v (below, heavy))
        ];
      })
    ]
  where
    by : (origin : Origin) → HasSoundRows origin weights → (v : ℕ) → IsLeast (IsTooHeavy weights) v
        → IsCause origin weights (WeightSum v)
    by (Given rows) sound v least = (sound, least)
    by (Keyed key sample height) sound v least = (sound, least)

-- given rows are sound, or have a fault
rows_or_fault : (rows weights : List (List ℕ))
    → AreSoundRows rows weights ⊎ ((fault : StackFault) × IsCause (Given rows) weights fault)
rows_or_fault rows weights = elim (cases_eq (length rows) (length weights)) [
  | inr other ↦ inr (RowCount (length rows) (length weights), (refl, refl, other))
  | inl count ↦ elim (none_least (IsEmptyRow rows) (length rows) (decide_empty rows) (λ v h. h.0)) [
    | inl (v, least) ↦ inr (EmptyRow v, (count, least))
    | inr full ↦
        let entries : HaveEntries rows = λ v below. elim (cases_lt 0 (length (row_of rows v))) [
          | inl some ↦ some
          | inr none ↦ absurd (full v (below, omega (arith, none)))
        ] in
        elim (least_pair (IsTooLarge rows weights) (length rows) (λ v. length (row_of rows v))
        (decide_large rows weights)
        (λ v k h. (h.row, h.place))) [
          | inl (v, k, least) ↦ inr (ValueTooLarge v k, (count, entries, least))
          | inr small ↦ inl (record {
            count = count;
            entries = entries;
            values = λ v k row place.
                elim (cases_lt (slice_index (row_of rows v) k) (length (row_of weights v))) [
                  | inl low ↦ low
                  | inr large ↦ absurd (small v k (record { row = row; place = place; large = large }))
                ];
          })
        ]
  ]
]

-- so stacks are sound, or have a fault
pub sound_or_fault : (origin : Origin) (weights : List (List ℕ))
    → IsSound origin weights ⊎ ((fault : StackFault) × IsCause origin weights fault)
sound_or_fault (Given rows) weights = elim (rows_or_fault rows weights) [
  | inr fault ↦ inr fault
  | inl sound ↦ elim (heavy_or_light (Given rows) weights sound) [
    | inl is ↦ inl is
    | inr (v, heavy) ↦ inr (WeightSum v, heavy)
  ]
]
sound_or_fault (Keyed key sample height) weights = elim (heavy_or_light (Keyed key sample height) weights tt) [
  | inl is ↦ inl is
  | inr (v, heavy) ↦ inr (WeightSum v, heavy)
]

-- samples that are asked for are few, or too many
few_or_many : (asked : Option ℕ) (variables : ℕ)
    → AreFew asked variables ⊎ ((count : ℕ) × (asked ≡ Some count) × (2 ^ 25 < count * variables))
few_or_many None variables = inl (λ count is. absurd (none-some count is))
few_or_many (Some n) variables = elim (cases_lt (2 ^ 25) (n * variables)) [
  | inl many ↦ inr (n, refl, many)
  | inr few ↦ inl (λ count is. subst (λ (k : ℕ). k * variables ≤ 2 ^ 25) (same_Some n count is) few)
]

-- so stacks of which samples are asked for are refused, or sound and few
pub stacks_or_refused : (facts : Facts) (origin : Origin) (weights : List (List ℕ)) (asked : Option ℕ)
    → (IsSound origin weights × AreFew asked (length weights))
    ⊎ ((refusal : Refusal) × RefusesStacks facts origin weights asked refusal)
stacks_or_refused facts origin weights asked = elim (few_or_many asked (length weights)) [
  | inr (count, is, many) ↦
      inr (TooMany count, inl (record { count = count; asked_is = is; many = many; is = refl }))
  | inl few ↦ elim (sound_or_fault origin weights) [
    | inl sound ↦ inl (sound, few)
    | inr (fault, cause) ↦
        inr (unsound facts fault, inr (record { fault = fault; cause = cause; is = refl }, few))
  ]
]
