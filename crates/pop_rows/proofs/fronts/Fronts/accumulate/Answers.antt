use Rattle.std.proofs.Common.{◌<◌, ◌≤◌, ◌+◌, ◌^◌, ◌∙◌, All, ap, subst, sum, take, map, length, slice_index}
use Rattle.pop_model.specs.Places.{IsLeast}
use Rattle.pop_rows.specs.Fronts.{fronts_of}
use Rattle.pop_rows.specs.PrefixSums.{running, IsTooHeavy, AreLight}
use Rattle.pop_rows.proofs.FrontsLemmas.{sums_of_fronts, sums_are_fronts, fronts_are_light, longer_is_heavy}
use Rattle.pop_rows.proofs.fronts.Fronts.accumulate.Goals as goal
use Rattle.pop_rows.proofs.fronts.Fronts.accumulate.Goals.{After-first_above, After-sum_front}

-- the light front is within the list
within : (c : After-first_above) → c.light_front-light.result ≤ length c.self.inside.list.items
within c = subst (λ xs. c.light_front-light.result ≤ length xs) c.deref.ensures.value c.light_front-light.ensures.within

-- and its sum has 32 bits
fits : (c : After-first_above) → sum (take c.light_front-light.result c.self.inside.list.items) < 2 ^ 32
fits c =
    subst (λ xs. sum (take c.light_front-light.result xs) < 2 ^ 32) c.deref.ensures.value c.light_front-light.ensures.light

pub returns-in-Some-clause-heavy : goal.returns-in-Some-clause-heavy
returns-in-Some-clause-heavy c =
    let a = c.self.inside in
    let light = c.light_front-light.result in
    let before = (goal.at.returns-in-Some-clause-heavy c).After-first_above in
    subst (λ rows. IsLeast (IsTooHeavy rows) c.in-Some.v) c.self.view_is
    (longer_is_heavy a.lengths.items a.list.items c.self.invariant light (within before) (fits before)
    (subst (λ xs. light < length xs → 2 ^ 32 ≤ sum (take (light + 1) xs)) c.deref.ensures.value
    c.light_front-light.ensures.most)
    c.in-Some.v
    (subst (λ xs. IsLeast (λ v. (v < length xs) × (light < slice_index xs v)) c.in-Some.v) c.deref-2.ensures.value
    c.in-Some.ensures.found))

-- no length is above the light front
short : (c : After-sum_front) → All (λ n. n ≤ c.light_front-light.result) c.self.inside.lengths.items
short c =
    subst (All (λ n. n ≤ c.light_front-light.result)) c.deref-2.ensures.value c.in_default.ensures.none

pub invariant_of-self : goal.invariant_of-self
invariant_of-self c =
    let a = c.self.inside in
    let before = (goal.at.invariant_of-self c).After-first_above in
    let after = (goal.at.invariant_of-self c).After-sum_front in
    rw c.sum_front.ensures
    (sums_are_fronts a.lengths.items a.list.items c.self.invariant c.light_front-light.result (within before)
    (fits before) (short after))

pub returns-clause-sums : goal.returns-clause-sums
returns-clause-sums c =
    let a = c.self.inside in
    let before = (goal.at.returns-clause-sums c).After-first_above in
    let after = (goal.at.returns-clause-sums c).After-sum_front in
    ap (fronts_of a.lengths.items) c.sum_front.ensures
    ∙ sums_of_fronts a.lengths.items a.list.items c.self.invariant c.light_front-light.result (within before)
    (fits before) (short after)
    ∙ ap (map (running 0)) c.self.view_is

pub returns-clause-light : goal.returns-clause-light
returns-clause-light c =
    let a = c.self.inside in
    let before = (goal.at.returns-clause-light c).After-first_above in
    let after = (goal.at.returns-clause-light c).After-sum_front in
    subst AreLight c.self.view_is
    (fronts_are_light a.lengths.items a.list.items c.self.invariant c.light_front-light.result (within before)
    (fits before) (short after))
