-- A round as it is made: the variables of the search move on, and only events that met one of them may occur anew.
use Rattle.std.proofs.Common.{inl, inr, ◌≡◌, ℕ, zero, suc, ◌+◌, ◌<◌, true, List, [], length, get_or, filter, None, Some, refl, sym, ap, subst, ◌∙◌, arith, All, Contains}
use Rattle.std.specs.Prelude.{slice_index}
use Rattle.std.proofs.lemmas.List.{get_or_default}
use Rattle.std.proofs.lemmas.List.Elements.{All-contains, Contains-get_or}
use Rattle.pop_model.specs.Stacks.{StackTable, height_of, value_at}
use Rattle.pop_model.specs.Popping.{Cube, NamesBelow, Occurs, AreWithin, cursor}
use Rattle.pop_model.specs.Instances.{Instance}
use Rattle.pop_model.specs.Places.{IsLeast}
use Rattle.pop_instance.specs.Events.{cube_at}
use Rattle.confluence_core.specs.Loops.{Raises}
use Rattle.confluence_core.proofs.Places.{listed, event_at, event_from}
use Rattle.prs_rounds.specs.Resampling.{IsResampledVariable}
use Rattle.prs_rounds.specs.Rounds.{IsRound, Rounds, HasNoNext}
use Rattle.prs_rounds.specs.Values.{AreValues, shows}
use Rattle.prs_rounds.specs.Growth.{mark_of, AreListed}
use Rattle.prs_rounds.specs.Grown.{StartsAt, IsGrown}
use Rattle.prs_rounds.specs.Moves.{IsLeastShort}
use Rattle.prs_rounds.specs.declared.mark.Mark.TheVariants.{Free, Joined}
use Rattle.prs_rounds.specs.declared.growth.Growth.{Growth}
use Rattle.prs_rounds.proofs.GrowthLemmas.{free_or_made}
use Rattle.prs_rounds.proofs.ShownLemmas.{filter_keeps, filter_has, shown_occurs, occurs_shown}
use Rattle.prs_rounds.proofs.OnlyOccurring.{occurs_resampled}
use Rattle.prs_rounds.proofs.MovesLemmas.{place_of}

-- one round more
pub rounds_more : (i : Instance) (n : ℕ) (a b c : List ℕ) → Rounds i n a b → IsRound i b c → Rounds i (suc n) a c
rounds_more i zero a b c same round = (c, subst (λ x. IsRound i x c) (sym same) round, refl)
rounds_more i (suc n) a b c run round = (run.0, run.1, rounds_more i n run.0 b c run.2 round)

module _ (s : StackTable) (rows : List (ℕ × Cube)) (c values found : List ℕ) (g : Growth) (count : ℕ)
    (starts : StartsAt s rows c values found) (grown : IsGrown (listed s rows) rows c g)
    (are_listed : AreListed (length rows) count g) where
  -- the variables of the search are those of the resampling set
  variable_to : (v : ℕ) → Contains g.variables.items v → IsResampledVariable (listed s rows) c v
  variable_to v has = (grown.covered v).0 (are_listed.are_covered v has)

  -- and the other way round
  variable_from : (v : ℕ) → IsResampledVariable (listed s rows) c v → Contains g.variables.items v
  variable_from v h = are_listed.variables v ((grown.covered v).1 h)

  -- the least short variable of the search is that of the resampling set
  pub short_from : (v : ℕ) → IsLeastShort s c g.variables.items (Some v) → IsLeast (HasNoNext (listed s rows) c) v
  short_from v short = record {
    holds = record { resampled = variable_to v short.holds.0; last = short.holds.1 };
    none_before = λ w less h. short.none_before w less (variable_from w h.resampled, h.last);
  }

  module _ (new : List ℕ) (all : IsLeastShort s c g.variables.items None)
      (raises : Raises g.variables.items (length g.variables.items) c new) where
    -- a variable that isn't one of the search keeps its cursor
    stays : (v : ℕ) → (Contains g.variables.items v → ⊥) → cursor new v ≡ cursor c v
    stays v none = raises.kept v (λ k h same. none (k, h, get_or_default g.variables.items k v 0 h ∙ same))

    moves : (v : ℕ) → Contains g.variables.items v → cursor new v ≡ cursor c v + 1
    moves v (k, h, at) =
        let at_zero : slice_index g.variables.items k ≡ v = get_or_default g.variables.items k 0 v h ∙ at in
        ap (cursor new) (sym at_zero) ∙ raises.raised k h ∙ ap (λ w. cursor c w + 1) at_zero

    has_next : (v : ℕ) → Contains g.variables.items v → cursor c v + 1 < height_of s v
    has_next v has = All-contains (λ w. cursor c w + 1 < height_of s w) g.variables.items v all has

    -- the round
    pub round_from : 0 < length found → IsRound (listed s rows) c new
    round_from some = record {
      some = λ finished.
          let u : ℕ = get_or found 0 0 in
          let has = Contains-get_or found 0 0 some in
          let within = starts.known u has in
          finished (event_at rows u) (event_from rows (event_at rows u) within refl) ((starts.exact u within).0 has);
      room = λ v h. has_next v (variable_from v h);
      count = raises.count;
      moved = λ v h. moves v (variable_from v h);
      kept = λ v none. stays v (λ has. none (variable_to v has));
    }

    -- the cursors stay below the heights
    pub within_round : AreWithin s c → AreWithin s new
    within_round within v below = elim (place_of g.variables.items (length g.variables.items) v (omega arith)) [
      | inl at ↦
          let has : Contains g.variables.items v = (
            at.0,
            at.1,
            get_or_default g.variables.items at.0 v 0 at.1
                ∙ at.2,
          ) in
          let next = has_next v has in
          let moved = moves v has in
          omega (arith, next, moved)
      | inr none ↦
          let old = within v below in
          let kept : cursor new v ≡ cursor c v = raises.kept v none in
          omega (arith, old, kept)
    ]

    -- an event that occurs now was looked at
    looked_at : (u : ℕ) → u < length rows → Occurs s new (cube_at rows u) → Contains g.looked.items u
    looked_at u within occurs = elim (free_or_made (mark_of g u)) [
      | inr made ↦ are_listed.looked u made
      | inl free ↦ absurd (
          let before : Occurs s c (cube_at rows u) = occurred occurs free in
          let joined : mark_of g u ≡ Joined = (grown.joined u within).1
          (occurs_resampled (listed s rows) c (event_at rows u)
          (record { event = event_from rows (event_at rows u) within refl; occurs = before })) in
          let no : Joined ≡ Free = sym joined ∙ free in cc)
    ]
      where
        occurred : Occurs s new (cube_at rows u) → mark_of g u ≡ Free → Occurs s c (cube_at rows u)
        occurred at_new is_free k d h =
            let p : ℕ × ℕ = get_or (cube_at rows u) k d in
            let none : Contains g.variables.items p.0 → ⊥ =
            λ has. grown.met u within (p, Contains-get_or (cube_at rows u) k d h, are_listed.are_covered p.0 has)
            is_free in
            subst (λ n. value_at s p.0 n ≡ p.1) (stays p.0 none) (at_new k d h)

    -- what is found among the events that were looked at is all that occurs
    pub starts_next : (now after : List ℕ) → AreValues s new now → All (λ r. NamesBelow r.1 (length new)) rows
        → after ≡ filter (λ u. shows now (cube_at rows u)) g.looked.items → StartsAt s rows new now after
    starts_next now after are fits is = record {
      values_are = are;
      known = λ u has. All-contains (λ w. w < length rows) g.looked.items u are_listed.known_events (kept u has).0;
      exact = λ u within. (
        λ has. shown_occurs s new now are (cube_at rows u) (fits u (0, []) within) (kept u has).1,
        λ occurs. subst (λ xs. Contains xs u) (sym is)
            (filter_has (λ w. shows now (cube_at rows w)) g.looked.items u (looked_at u within occurs)
            (occurs_shown s new now are (cube_at rows u) (fits u (0, []) within) occurs)),
      );
    }
      where
        kept : (u : ℕ) → Contains after u → Contains g.looked.items u × (shows now (cube_at rows u) ≡ true)
        kept u has = filter_keeps (λ w. shows now (cube_at rows w)) g.looked.items u
            (subst (λ xs. Contains xs u) is has)
