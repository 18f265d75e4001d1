-- The variables of a cycle have arrows, and the first is the least of them.
use Rattle.std.proofs.Common.{inl, inr, ◌≡◌, ℕ, ◌<◌, ◌≤◌, true, length, sym, ap, subst, ◌∙◌, arith, get_or}
use Rattle.std.proofs.lemmas.Bool.{cases_eq}
use Rattle.std.proofs.lemmas.List.{length-map, get_or-map}
use Rattle.std.proofs.lemmas.List.Kept.{AllPairs-from_increasing}
use Rattle.std.proofs.lemmas.List.Elements.{Contains-get_or}
use Rattle.pop_model.specs.Popping.{Cube, IsCube, NamesBelow, names, variables}
use Rattle.pop_model.specs.Cycles.{IsCycle, first_of}
use Rattle.pop_model.proofs.Diamond.{named, names_it}
use Rattle.pop_model.proofs.Following.{named_demand}
use Rattle.pop_model.proofs.CycleFamily.{Heads, arrow_demands, stays_in}
use Rattle.pop_model.proofs.TreeEnd.{head_within}

-- a variable of a cycle has an arrow
pub cycle_below : (heads : Heads) (e : Cube) (v : ℕ) → IsCycle heads e → names e v ≡ true → v < length heads
cycle_below heads e v cycle there =
    let on = stays_in heads e cycle v there in
    let x = named_demand e v there in
    head_within heads v x.0 on.next (sym (arrow_demands heads e v x.0 x.1) ∙ on.leads)

-- so each of them is below their number
pub cycle_names_below : (heads : Heads) (e : Cube) → IsCycle heads e → NamesBelow e (length heads)
cycle_names_below heads e cycle k d within =
    let p : ℕ × ℕ = get_or e k d in
    cycle_below heads e p.0 cycle (names_it e p (Contains-get_or e k d within))

-- the first variable of a cube is its least
pub first_least : (e : Cube) (v : ℕ) → IsCube e → names e v ≡ true → first_of e ≤ v
first_least e v cube there =
    let x = named e v there in
    let k : ℕ = x.1.0 in
    let within : k < length e = x.1.1 in
    let at : get_or (variables e) k 0 ≡ v =
    get_or-map (λ (p : ℕ × ℕ). p.0) e k (v, x.0) 0 within ∙ ap (λ (p : ℕ × ℕ). p.0) x.1.2 in
    elim (cases_eq k 0) [
      | inl none ↦
          let same : get_or (variables e) 0 0 ≡ v = subst (λ n. get_or (variables e) n 0 ≡ v) none at in omega
          (arith, same)
      | inr some ↦
          let size = length-map e (λ (p : ℕ × ℕ). p.0) in
          let less = AllPairs-from_increasing (variables e) cube.rising 0 k 0 (omega arith) (omega (arith, size)) in
          omega (arith, less, at)
    ]
