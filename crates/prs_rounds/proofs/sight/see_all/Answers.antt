use Rattle.std.proofs.Common.{◌≡◌, ℕ, List, length, ap, ◌∙◌, arith, All}
use Rattle.pop_model.specs.Stacks.{StackTable, variables_of}
use Rattle.pop_model.specs.Popping.{Cube, NamesBelow}
use Rattle.pop_model.specs.Instances.{FitsStacks}
use Rattle.prs_rounds.specs.Values.{shown_places}
use Rattle.prs_rounds.proofs.ShownLemmas.{violated_are, starts_from, values_are_at}
use Rattle.prs_rounds.proofs.sight.see_all.Goals as goal

-- cubes that fit the stacks name variables below their count
below_count : (s : StackTable) (rows : List (ℕ × Cube)) (n : ℕ) → variables_of s ≡ n
    → All (λ r. FitsStacks s r.1) rows → All (λ r. NamesBelow r.1 n) rows
below_count s rows n count fits k d h k' d' h' = let fit = (fits k d h k' d' h').0 in omega (arith, fit, count)

pub all_shown-requires-clause-fits : goal.all_shown-requires-clause-fits
all_shown-requires-clause-fits g c =
    below_count c.args.stacks.now c.args.events.now (length c.deref.result.now)
    (omega (arith, c.requires.count, c.in_ok-values.ensures.count, ap length c.deref.ensures.value)) c.requires.fits

pub returns-clause-units : goal.returns-clause-units
returns-clause-units g c =
    let s = c.args.stacks.now in
    let rows = c.args.events.now in
    let at = c.args.cursors.now in
    let found = c.in_ok-found.ensures ∙ ap (λ vs. shown_places vs rows) c.deref.ensures.value in
    violated_are s rows at c.in_ok-values.values.items c.in_ok-found.found.items c.in_ok-values.ensures
    (below_count s rows (length at) c.requires.count c.requires.fits) found

pub returns-clause-list : goal.returns-clause-list
returns-clause-list g c =
    let rows = c.args.events.now in
    let values = values_are_at c.args.stacks.now c.args.cursors.now c.in_ok-values.values.items c.in_ok-values.ensures in
    c.in_ok-found.ensures ∙ ap (λ vs. shown_places vs rows) (c.deref.ensures.value ∙ values)

pub returns-clause-starts : goal.returns-clause-starts
returns-clause-starts g c =
    let s = c.args.stacks.now in
    let rows = c.args.events.now in
    let at = c.args.cursors.now in
    starts_from s rows at c.in_ok-values.values.items c.in_ok-found.found.items c.in_ok-values.ensures
    (below_count s rows (length at) c.requires.count c.requires.fits)
    (c.in_ok-found.ensures ∙ ap (λ vs. shown_places vs rows) c.deref.ensures.value)
