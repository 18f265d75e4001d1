-- Listed events are extremal, or two of them clash, of which there is a least pair of numbers: whether two cubes
-- exclude each other is found.
use Rattle.std.proofs.Common.{inl, inr, ◌≡◌, ◌⊎◌, ℕ, List, [], get_or, Some, slice_get, refl, sym, ap, ap₂, subst, ◌∙◌, Contains}
use Rattle.std.proofs.lemmas.Bool.{cases_eq, cases_order}
use Rattle.std.proofs.lemmas.List.Elements.{All-contains}
use Rattle.std.proofs.lemmas.Option.{get_or_from_slice_get, slice_get_within}
use Rattle.pop_model.specs.Popping.{Cube, IsCube}
use Rattle.pop_model.specs.Families.{Event, AreEvents}
use Rattle.pop_model.specs.Families.Family.{Listed}
use Rattle.pop_model.specs.Extremal.{Exclude, IsExtremal}
use Rattle.pop_model.proofs.CycleFamily.{Agree, exclude_or_agree}
use Rattle.pop_model.proofs.Following.{rising_demand}
use Rattle.pop_model.proofs.Sharing.{Share-sym}
use Rattle.pop_instance.specs.Events.{event_number}
use Rattle.pop_instance.proofs.ListedEvents.{same_place}
use Rattle.extremal_check.specs.Clashes.{Clash, AreClashing}
use Rattle.job_subjects.specs.declared.refusal.Refusal.{Refusal}
use Rattle.job_subjects.specs.declared.refusal.Refusal.TheVariants.{Clashes}
use Rattle.job_subjects.specs.Refused.{AreClashed}
use Rattle.prs_rounds.proofs.ClosedSets.{IsDecided, decide_both, decide_share}
use Rattle.total_answers.proofs.Deciding.{decide_lt, keys_below, known_member, least_pair}

-- cubes that agree on what they share don't exclude each other
agree_apart : (e f : Cube) → IsCube e → IsCube f → Agree e f → Exclude e f → ⊥
agree_apart e f is is' agree (v, x, y, here, there, differ) =
    differ (agree v x y (rising_demand e v x is.rising here) (rising_demand f v y is'.rising there))

-- two cubes clash, or not
decide_clash : (e f : Cube) → IsCube e → IsCube f → IsDecided (Clash e f)
decide_clash e f is is' = elim (decide_share e f) [
  | inr apart ↦ inr (λ h. apart h.share)
  | inl share ↦ elim (exclude_or_agree e f) [
    | inl exclude ↦ inr (λ h. h.agree exclude)
    | inr agree ↦ inl (record { share = share; agree = agree_apart e f is is' agree })
  ]
]

module _ (rows : List (ℕ × Cube)) (are : AreEvents rows) where
  -- the cube of a member
  member_cube : (r : ℕ × Cube) → Contains rows r → IsCube r.1
  member_cube r has = All-contains (λ (q : ℕ × Cube). IsCube q.1) rows r are.cubes has

  -- a row has this number, and clashes with one that has the other
  abbrev ClashesWith : ℕ → Cube → Type 0
  ClashesWith other e = (q : ℕ × Cube) × Contains rows q × ((q.0 ≡ other) × Clash e q.1)

  -- which is found
  decide_with : (number other : ℕ) (r : ℕ × Cube) → Contains rows r
      → IsDecided ((r.0 ≡ number) × ClashesWith other r.1)
  decide_with number other r has =
      decide_both (r.0 ≡ number) (ClashesWith other r.1) (cases_eq r.0 number)
      (elim (known_member (λ (q : ℕ × Cube). (q.0 ≡ other) × Clash r.1 q.1) rows
      (λ q has'. decide_both (q.0 ≡ other) (Clash r.1 q.1) (cases_eq q.0 other)
      (decide_clash r.1 q.1 (member_cube r has) (member_cube q has')))) [
        | inl found ↦ inl found
        | inr none ↦ inr (λ (q, has', both). none q has' both)
      ])

  -- so it is found whether the events with two numbers clash
  decide_clashing : (number other : ℕ) → IsDecided (AreClashing rows number other)
  decide_clashing number other = elim (decide_lt number other) [
    | inr not ↦ inr (λ h. not h.rising)
    | inl rising ↦
        elim (known_member (λ (r : ℕ × Cube). (r.0 ≡ number) × ClashesWith other r.1) rows (decide_with number other)) [
          | inl (r, has, (same, (q, has', (same', clash)))) ↦ inl (record {
            rising = rising;
            events = (
              r.1,
              q.1,
              subst (λ (n : ℕ). Contains rows (n, r.1)) same has,
              subst (λ (n : ℕ). Contains rows (n, q.1)) same' has',
              clash,
            );
          })
          | inr none ↦ inr (λ h.
              let (e, f, has, has', clash) = h.events in
              none (number, e) has (refl, ((other, f), has', (refl, clash))))
        ]
  ]

  -- an event is a member under its number
  as_member : (e : Event) (n : ℕ) → slice_get rows e.unit ≡ Some (n, e.cube) → Contains rows (n, e.cube)
  as_member e n at = (
    e.unit,
    slice_get_within rows e.unit (n, e.cube) at,
    get_or_from_slice_get rows e.unit (n, e.cube) (n, e.cube) at,
  )

  -- where none clash, the events are extremal
  extremal_if : ((v k : ℕ) → AreClashing rows v k → ⊥) → IsExtremal (Listed rows)
  extremal_if none e f (n, at) (m, at') differ share = elim (exclude_or_agree e.cube f.cube) [
    | inl exclude ↦ exclude
    | inr agree ↦
        let has = as_member e n at in
        let has' = as_member f m at' in
        let apart = agree_apart e.cube f.cube (member_cube (n, e.cube) has) (member_cube (m, f.cube) has') agree in
        elim (cases_order n m) [
          | inl same ↦
              let number : event_number rows e.unit ≡ n =
              ap (λ (r : ℕ × Cube). r.0) (get_or_from_slice_get rows e.unit (n, e.cube) (0, []) at) in
              let number' : event_number rows f.unit ≡ m =
              ap (λ (r : ℕ × Cube). r.0) (get_or_from_slice_get rows f.unit (m, f.cube) (0, []) at') in
              let place : e.unit ≡ f.unit =
              same_place rows e.unit f.unit are (slice_get_within rows e.unit (n, e.cube) at)
              (slice_get_within rows f.unit (m, f.cube) at') (number ∙ same ∙ sym number') in
              let cube : e.cube ≡ f.cube =
              ap (λ (r : ℕ × Cube). r.1) (sym (get_or_from_slice_get rows e.unit (n, e.cube) (0, []) at)
              ∙ ap (λ u. get_or rows u (0, [])) place
              ∙ get_or_from_slice_get rows f.unit (m, f.cube) (0, []) at') in
              absurd (differ (ap₂ (λ (u : ℕ) (c : Cube). record { unit = u; cube = c }) place cube))
          | inr (inl less) ↦ absurd (none n m (record {
            rising = less;
            events = (e.cube, f.cube, has, has', record { share = share; agree = apart });
          }))
          | inr (inr more) ↦ absurd (none m n (record {
            rising = more;
            events = (
              f.cube,
              e.cube,
              has',
              has,
              record {
                share = Share-sym e.cube f.cube share;
                agree = λ (v, x, y, there, here, other). apart (v, y, x, here, there, λ same. other (sym same));
              },
            );
          }))
        ]
  ]

  -- listed events are extremal, or there is a least pair that clashes
  pub extremal_or_clashed : IsExtremal (Listed rows) ⊎ ((refusal : Refusal) × AreClashed rows refusal)
  extremal_or_clashed =
      let low = keys_below (λ (r : ℕ × Cube). r.0) rows in
      elim (least_pair (AreClashing rows) low.0 (λ v. low.0) decide_clashing (λ v k h.
      let (e, f, has, has', clash) = h.events in (low.1 (v, e) has, low.1 (k, f) has'))) [
        | inr none ↦ inl (extremal_if none)
        | inl (v, k, least) ↦ inr (Clashes v k, record { number = v; other = k; least = least; is = refl })
      ]
