-- The places of the events that have joined.
use Rattle.std.proofs.Common.{◌≡◌, ℕ, ◌<◌, true, false, List, length, filter, refl, sym, ap, subst, ◌∙◌, Contains}
use Rattle.std.specs.List.{range_with_len}
use Rattle.std.proofs.lemmas.List.Kept.{IsStrictlyIncreasing-filter}
use Rattle.pop_model.specs.Stacks.{StackTable}
use Rattle.pop_model.specs.Popping.{Cube}
use Rattle.pop_model.specs.Families.{Event}
use Rattle.pop_model.proofs.Members.{in_range}
use Rattle.confluence_core.proofs.Places.{listed, event_at, event_to}
use Rattle.prs_rounds.specs.Resampling.{IsResampled}
use Rattle.prs_rounds.specs.Units.{AreUnitsOf}
use Rattle.prs_rounds.specs.Growth.{mark_of, is_joined}
use Rattle.prs_rounds.specs.Grown.{IsGrown}
use Rattle.prs_rounds.specs.declared.mark.Mark.{Mark}
use Rattle.prs_rounds.specs.declared.mark.Mark.TheVariants.{Free, Joined, Excluded}
use Rattle.prs_rounds.specs.declared.growth.Growth.{Growth}
use Rattle.prs_rounds.proofs.ShownLemmas.{filter_keeps, filter_has, range_below, range_rises}
use Rattle.prs_rounds.proofs.Fates.{resampled_event}
use Rattle.prs_rounds.proofs.MarkedSteps.{with_cube}

-- the mark of an event of the set is that it joined
joined_is : (m : Mark) → is_joined m ≡ true → m ≡ Joined
joined_is Free h = absurd (let no : false ≡ true = h in cc)
joined_is Joined h = refl
joined_is Excluded h = absurd (let no : false ≡ true = h in cc)

-- the places whose events have joined are the units of the resampling set
pub resampled_units : (s : StackTable) (rows : List (ℕ × Cube)) (c : List ℕ) (g : Growth) (units : List ℕ)
    → IsGrown (listed s rows) rows c g
    → units ≡ filter (λ u. is_joined (mark_of g u)) (range_with_len 0 (length rows))
    → AreUnitsOf (IsResampled (listed s rows) c) units
resampled_units s rows c g units grown is = subst (AreUnitsOf (IsResampled (listed s rows) c)) (sym is) (record {
  rising = IsStrictlyIncreasing-filter (λ u. is_joined (mark_of g u)) (range_with_len 0 (length rows))
      (range_rises 0 (length rows));
  exact = λ u. (to u, from u);
})
  where
    to : (u : ℕ) → Contains (filter (λ u. is_joined (mark_of g u)) (range_with_len 0 (length rows))) u
        → (e : Event) × (e.unit ≡ u) × IsResampled (listed s rows) c e
    to u has =
        let kept = filter_keeps (λ u. is_joined (mark_of g u)) (range_with_len 0 (length rows)) u has in
        let within : u < length rows = range_below (length rows) u kept.0 in
        (event_at rows u, refl, (grown.joined u within).0 (joined_is (mark_of g u) kept.1))

    from : (u : ℕ) → (e : Event) × (e.unit ≡ u) × IsResampled (listed s rows) c e
        → Contains (filter (λ u. is_joined (mark_of g u)) (range_with_len 0 (length rows))) u
    from u (e, is_u, resampled) =
        let at = event_to rows e (resampled_event (listed s rows) c e resampled) in
        let within : u < length rows = subst (λ n. n < length rows) is_u at.within in
        let same : e ≡ event_at rows u = ap (λ (x : Cube). with_cube e.unit x) (sym at.cube)
        ∙ ap (event_at rows) is_u in
        let joined : mark_of g u ≡ Joined = (grown.joined u within).1
        (subst (IsResampled (listed s rows) c) same resampled) in
        filter_has (λ u. is_joined (mark_of g u)) (range_with_len 0 (length rows)) u (in_range (length rows) u within)
        (ap is_joined joined)
