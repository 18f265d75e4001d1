use Rattle.std.proofs.Common.{◌≡◌, ◌<◌, ℕ, List, None, Some, length, get_or, refl, sym, ap, subst, ◌∙◌, arith, All}
use Rattle.std.proofs.lemmas.List.Elements.{Contains-get_or}
use Rattle.pop_model.specs.Stacks.{variables_of}
use Rattle.pop_model.specs.Popping.{NamesBelow}
use Rattle.confluence_core.proofs.Places.{listed}
use Rattle.confluence_core.specs.Loops.{Raises}
use Rattle.prs_rounds.specs.Values.{AreValues}
use Rattle.prs_rounds.specs.Moves.{IsLeastShort}
use Rattle.prs_rounds.specs.Growth.{IsBlank}
use Rattle.prs_rounds.specs.Grown.{StartsAt, IsGrown}
use Rattle.prs_rounds.proofs.ShownLemmas.{found_again}
use Rattle.prs_rounds.proofs.RoundsLemmas.{short_from, round_from, within_round, starts_next}
use Rattle.prs_rounds.proofs.state.turn.Goals as goal

pub grow-requires-clause-fits : goal.grow-requires-clause-fits
grow-requires-clause-fits g c k d h k' d' h' =
    let fit = (c.requires.fits k d h k' d' h').0 in
    let values = c.requires.at.starts.values_are in
    omega (arith, fit, values.count, c.requires.at.count, ap length c.deref.ensures.value)

pub grow-requires-clause-known : goal.grow-requires-clause-known
grow-requires-clause-known g c =
    let found = c.args.state.now.found.items in
    subst (All (λ u. u < length c.args.events.now)) (sym c.deref-2.ensures.value)
    (λ k d h. c.requires.at.starts.known (get_or found k d) (Contains-get_or found k d h))

pub returns-in-Some : goal.returns-in-Some
returns-in-Some g c =
    let s = c.args.stacks.now in
    let rows = c.args.events.now in
    let at = c.args.state.now.cursors in
    let starts : StartsAt s rows at c.deref.result.now c.deref-2.result.now =
    rw (c.deref.ensures.value, c.deref-2.ensures.value) c.requires.at.starts in
    let search = c.grow.new.self in
    let grown : IsGrown (listed s rows) rows at search = c.in_ok-grow.ensures.grown s at starts in
    let short : IsLeastShort s at search.variables.items (Some c.in-Some.v) =
    subst (λ o. IsLeastShort s at search.variables.items o) c.in-Some.is
    (subst (λ vs. IsLeastShort s at vs c.least_short.result) c.deref-3.ensures.value c.least_short.ensures) in (
      short_from s rows at c.deref.result.now c.deref-2.result.now search (length c.deref.result.now) starts grown
          c.in_ok-grow.ensures.listed c.in-Some.v short,
      refl,
      refl,
    )

pub returns : goal.returns
returns g c =
    let s = c.args.stacks.now in
    let rows = c.args.events.now in
    let at = c.args.state.now.cursors in
    let was = c.requires.at in
    let starts : StartsAt s rows at c.deref.result.now c.deref-2.result.now =
    rw (c.deref.ensures.value, c.deref-2.ensures.value) was.starts in
    let search = c.grow.new.self in
    let variables = search.variables.items in
    let found = c.in_ok-grow.ensures in
    let grown : IsGrown (listed s rows) rows at search = found.grown s at starts in
    let all : IsLeastShort s at variables None =
    subst (λ o. IsLeastShort s at variables o) c.in_default.is
    (subst (λ vs. IsLeastShort s at vs c.least_short.result) c.deref-3.ensures.value c.least_short.ensures) in
    let new = c.move_on.new.cursors in
    let raises : Raises variables (length variables) at new =
    subst (λ (vs : List ℕ). Raises vs (length vs) at new) c.deref-4.ensures.value c.move_on.ensures in
    let again : Raises c.deref-5.result.now (length c.deref-5.result.now) at new =
    subst (λ (vs : List ℕ). Raises vs (length vs) at new) (sym c.deref-5.ensures.value) raises in
    let values = c.refresh.new.values.items in
    let now : AreValues s new values = c.in_ok-refresh.ensures at was.starts.values_are again in
    let fits : All (λ r. NamesBelow r.1 (length new)) rows =
    λ k d h k' d' h'. let fit = (c.requires.fits k d h k' d' h').0 in omega (arith, fit, was.count, raises.count) in
    let after = c.in_ok-state.field-0.items in
    let is = found_again rows c.deref-6.result.now values c.deref-7.result.now search.looked.items after
    c.in_ok-state.ensures
    c.deref-6.ensures.value c.deref-7.ensures.value in
    let size : length c.deref.result.now ≡ variables_of s = starts.values_are.count ∙ sym was.count in (
      round_from s rows at c.deref.result.now c.deref-2.result.now search
          (length c.deref.result.now) starts grown found.listed
          new all raises (omega (arith, c.requires.some, ap length c.deref-2.ensures.value)),
      record {
        count = was.count ∙ sym raises.count;
        within = within_round s rows at c.deref.result.now c.deref-2.result.now search
            (length c.deref.result.now) starts grown
            found.listed new all raises was.within;
        starts = starts_next s rows at c.deref.result.now c.deref-2.result.now search
            (length c.deref.result.now) starts grown
            found.listed new all raises values after now fits is;
        blank = subst (λ n. IsBlank n (variables_of s) c.clear.new.self) found.listed.marks
            (subst (λ n. IsBlank (length search.marks.items) n c.clear.new.self) (found.listed.covered
            ∙ size) c.clear.ensures);
      },
    )
