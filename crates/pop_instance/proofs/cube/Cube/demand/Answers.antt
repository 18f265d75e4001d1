use Rattle.std.proofs.Common.{◌≡◌, Ok, Err, sym, ap, subst, ◌∙◌, rules}
use Rattle.std.proofs.lemmas.List.Sorted.{answers_always}
use Rattle.pop_model.specs.Popping.{Cube}
use Rattle.pop_model.specs.Cycles.{demand}
use Rattle.pop_model.proofs.Following.{Rises}
use Rattle.pop_instance.proofs.Demands.{searched}
use Rattle.pop_instance.proofs.cube.Cube.demand.Goals as goal

pub returns-in-Ok : goal.returns-in-Ok
returns-in-Ok c =
    let e : Cube = c.as_slice-pairs.result.now in
    let same : e ≡ c.args.self.now = c.as_slice-pairs.ensures ∙ c.self.view_is in
    let rises : Rises e = subst Rises (sym c.as_slice-pairs.ensures) c.self.invariant.0.rising in
    let by_key = c.in-Ok.ensures.position (λ pair. pair.0) (answers_always _ _ _ (λ f a r g called. search rules)) in
    let found = searched e rises c.args.v (Ok c.in-Ok.place) c.in-Ok.ensures.bound by_key in
    sym found ∙ ap (λ (f : Cube). demand f c.args.v) same

pub returns-in-Err : goal.returns-in-Err
returns-in-Err c =
    let e : Cube = c.as_slice-pairs.result.now in
    let same : e ≡ c.args.self.now = c.as_slice-pairs.ensures ∙ c.self.view_is in
    let rises : Rises e = subst Rises (sym c.as_slice-pairs.ensures) c.self.invariant.0.rising in
    let by_key = c.in-Err.ensures.position (λ pair. pair.0) (answers_always _ _ _ (λ f a r g called. search rules)) in
    let found = searched e rises c.args.v (Err c.in-Err.field-0) c.in-Err.ensures.bound by_key in
    sym found ∙ ap (λ (f : Cube). demand f c.args.v) same
