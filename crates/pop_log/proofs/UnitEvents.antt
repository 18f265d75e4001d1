-- The events of a family under their units: two events of one unit share a variable.
use Rattle.std.proofs.Common.{◌≡◌, ℕ, get_or, slice_get, sym, ap, subst, ◌∙◌, Contains}
use Rattle.std.proofs.lemmas.List.Elements.{Contains-get_or}
use Rattle.std.proofs.lemmas.Option.{same_Some}
use Rattle.pop_model.specs.Popping.{Cube, IsCube}
use Rattle.pop_model.specs.Cycles.{first_of}
use Rattle.pop_model.specs.Families.{Event, Family, IsEvent, IsFamily}
use Rattle.pop_model.specs.Families.Family.{Listed, Cycles}
use Rattle.pop_model.specs.Extremal.{Share}
use Rattle.pop_model.proofs.Diamond.{named}
use Rattle.pop_model.proofs.CycleFamily.{first_named}
use Rattle.confluence_core.proofs.EventVariables.{event_cube}

-- the events of the family have cubes
abbrev pub HaveCubes : Family → Type 0
HaveCubes family = (e : Event) → IsEvent family e → IsCube e.cube

pub family_cubes : (family : Family) → IsFamily family → HaveCubes family
family_cubes family is e event = event_cube family e is event

-- a cube shares its variables with itself
pub self_share : (e : Cube) → IsCube e → Share e e
self_share e cube =
    let p : ℕ × ℕ = get_or e 0 (0, 0) in
    let here = Contains-get_or e 0 (0, 0) cube.some in
    (p.0, p.1, p.1, here, here)

-- events of one unit share a variable
pub unit_share : (family : Family) → HaveCubes family → (e f : Event) → IsEvent family e → IsEvent family f
    → e.unit ≡ f.unit → Share e.cube f.cube
unit_share (Listed rows) cubes e f is is' same =
    let row : ℕ × Cube = (is.0, e.cube) in
    let row' : ℕ × Cube = (is'.0, f.cube) in
    let one : row ≡ row' = same_Some row row' (sym is.1 ∙ ap (slice_get rows) same ∙ is'.1) in
    let equal : e.cube ≡ f.cube = ap (λ (r : ℕ × Cube). r.1) one in
    subst (Share e.cube) equal (self_share e.cube (cubes e is))
unit_share (Cycles heads) cubes e f is is' same =
    let first : first_of f.cube ≡ first_of e.cube = sym is'.1 ∙ sym same ∙ is.1 in
    let here = named e.cube (first_of e.cube) (first_named e.cube is.0.cube) in
    let there = named f.cube (first_of f.cube) (first_named f.cube is'.0.cube) in
    (first_of e.cube, here.0, there.0, here.1, subst (λ v. Contains f.cube (v, there.0)) first there.1)
