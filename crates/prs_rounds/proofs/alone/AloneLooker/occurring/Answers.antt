use Rattle.std.proofs.Common.{◌≡◌, ℕ, ◌++◌, ◌∷◌, [], Bool, List, cond, filter, length, take, get_or, sym, ap, subst, ◌∙◌}
use Rattle.std.proofs.lemmas.List.{append-nil}
use Rattle.std.proofs.lemmas.List.Elements.{filter_more}
use Rattle.pop_model.specs.Popping.{Cube, NamesBelow}
use Rattle.pop_instance.specs.Events.{cube_at}
use Rattle.prs_rounds.specs.Values.{shows}
use Rattle.prs_rounds.proofs.alone.AloneLooker.occurring.Goals as goal
use Rattle.prs_rounds.proofs.alone.AloneLooker.occurring.Goals.{then-is_shown+in_ok-push, else-is_shown}

pub cube-requires : goal.cube-requires
cube-requires c = c.requires.known c.loop-place.place-index 0 c.loop-place-test.true

pub is_shown-requires : goal.is_shown-requires
is_shown-requires c =
    let k = c.loop-place.place-index in
    let values = c.args.values.now in
    record {
      known = subst (λ (e : Cube). NamesBelow e (length values)) (sym c.cube.ensures)
          (c.requires.fits (get_or c.args.places.now k 0) (0, []) (c.requires.known k 0 c.loop-place-test.true));
    }

-- one place more is found where the values show its event
pub loop-place-preserved : goal.loop-place-preserved
loop-place-preserved c =
    let values = c.args.values.now in
    let is_shown : ℕ → Bool = λ u. shows values (cube_at c.args.events.now u) in
    let places = c.args.places.now in
    let k = c.loop-place.place-index in
    let u : ℕ = get_or places k 0 in
    let more = filter_more is_shown places k 0 c.loop-place-test.true in
    let here : c.is_shown.result ≡ is_shown u = c.is_shown.ensures ∙ ap (shows values) c.cube.ensures in
    let met : List ℕ = filter is_shown (take k places) in
    elim c.if-is_shown.branch [
      | then-is_shown+in_ok-push w ↦
          ap (λ v. v.items) w.found-is ∙ w.in_ok-push.ensures.items ∙ ap (λ xs. xs ++ u ∷ []) c.loop-place.invariant
          ∙ ap (λ b. met ++ cond b (u ∷ []) []) (sym w.if-is_shown.true ∙ here) ∙ sym more
      | else-is_shown w ↦
          ap (λ v. v.items) w.found-is ∙ c.loop-place.invariant ∙ sym (append-nil met)
          ∙ ap (λ b. met ++ cond b (u ∷ []) []) (sym w.if-is_shown.false ∙ here) ∙ sym more
    ]
