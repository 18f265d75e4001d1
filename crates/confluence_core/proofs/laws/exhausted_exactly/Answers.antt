use Rattle.std.proofs.Common.{zero, ◌≢◌, List, [], ◌∷◌, subst, refl, Contains, arith}
use Rattle.pop_model.specs.Families.{Event}
use Rattle.pop_model.specs.Popping.{Occurs}
use Rattle.pop_model.proofs.UniqueEnd.{unique_run}
use Rattle.confluence_core.proofs.laws.exhausted_exactly.Goals as goal

-- a list that isn't empty has a member
some_member : (xs : List Event) → xs ≢ [] → (x : Event) × Contains xs x
some_member [] h = absurd (h refl)
some_member (x ∷ xs) h = (x, (zero, omega arith, refl))

pub returns : goal.returns
returns c i extremal at log stuck run list = (
  λ some (other, legal, finished).
      let same = unique_run i extremal at log other run.legal legal run.end (λ e is pop. finished e is pop.occurs) in
      let e = some_member stuck some in
      let there = (list.exact e.0).0 e.1 in
      finished e.0 there.0 (subst (λ d. Occurs i.stacks d e.0.cube) same.end there.1),
  λ never none.
      never (
        log,
        run.legal,
        λ e is occurs.
            let has : Contains [] e = subst (λ xs. Contains xs e) none ((list.exact e).1 (is, occurs)) in
            absurd (omega (arith, has.1)),
      ),
)
