-- All units together miss no event, and nor do those of what occurs.
use Rattle.std.proofs.Common.{◌≡◌, ℕ, ◌<◌, Bool, true, false, cond, refl, List, [], length, map, get_or, All, Contains, sym, ap, subst, ◌∙◌, arith}
use Rattle.std.specs.List.{range_with_len}
use Rattle.std.proofs.lemmas.List.FromFn.{length-range_with_len, get_or-range_with_len}
use Rattle.std.proofs.lemmas.List.{length-map, get_or-map}
use Rattle.std.proofs.lemmas.List.Elements.{All-nil, All-map, Contains-get_or}
use Rattle.std.proofs.lemmas.Option.{slice_get_within}
use Rattle.pop_model.specs.Popping.{names}
use Rattle.pop_model.specs.Runs.{IsEnd, IsStuckList}
use Rattle.pop_model.specs.Families.{Event, Family, IsEvent, units_of}
use Rattle.pop_model.specs.Families.Family.{Listed, Cycles}
use Rattle.pop_model.specs.Instances.{Instance}
use Rattle.pop_model.specs.Cycles.{first_of}
use Rattle.pop_model.proofs.CycleFamily.{first_named}
use Rattle.pop_model.proofs.Members.{in_range}
use Rattle.confluence_core.specs.Suspects.{IsSuspected, MissesNone}
use Rattle.confluence_core.proofs.CycleVariables.{cycle_below}

-- each of all units is one
pub all_known : (n : ℕ) (suspects : List ℕ) → suspects ≡ range_with_len 0 n → All (λ u. u < n) suspects
all_known n suspects are = rw are (λ k d less.
    let below : k < n = omega (arith, length-range_with_len 0 n) in
    let at = get_or-range_with_len 0 n k d below in
    omega (arith, at))

-- the unit of an event
pub unit_below : (family : Family) (e : Event) → IsEvent family e → e.unit < units_of family
unit_below (Listed rows) e (number, at) = slice_get_within rows e.unit (number, e.cube) at
unit_below (Cycles heads) e (cycle, unit) =
    subst (λ n. n < length heads) (sym unit)
    (cycle_below heads e.cube (first_of e.cube) cycle (first_named e.cube cycle.cube))

-- an event is suspected where its unit is
suspected_unit : (family : Family) (suspects : List ℕ) (e : Event) → IsEvent family e → Contains suspects e.unit
    → IsSuspected family suspects e
suspected_unit (Listed rows) suspects e is has = has
suspected_unit (Cycles heads) suspects e is has =
    (e.unit, subst (λ v. names e.cube v ≡ true) (sym is.1) (first_named e.cube is.0.cube), has)

-- all units miss none
pub all_miss_none : (i : Instance) (c suspects : List ℕ) → suspects ≡ range_with_len 0 (units_of i.family)
    → MissesNone i c suspects
all_miss_none i c suspects are e is poppable =
    suspected_unit i.family suspects e is
    (rw are (in_range (units_of i.family) e.unit (unit_below i.family e is)))

-- the unit of one of these events is among theirs, so that it is suspected
pub unit_suspected : (family : Family) (stuck : List Event) (e : Event) → IsEvent family e → Contains stuck e
    → IsSuspected family (map (λ e. e.unit) stuck) e
unit_suspected family stuck e is (k, below, at) = suspected_unit family (map (λ (x : Event). x.unit) stuck) e is (
  k,
  omega (arith, below, length-map stuck (λ (x : Event). x.unit)),
  get_or-map (λ (x : Event). x.unit) stuck k e e.unit below ∙ ap (λ (x : Event). x.unit) at,
)

-- the units of what occurs are units
pub unit_known : (i : Instance) (c : List ℕ) (stuck : List Event) → IsStuckList i c stuck
    → All (λ u. u < units_of i.family) (map (λ e. e.unit) stuck)
unit_known i c stuck list = All-map (λ u. u < units_of i.family) (λ (e : Event). e.unit) stuck (λ k d below.
    unit_below i.family (get_or stuck k d) ((list.exact (get_or stuck k d)).0 (Contains-get_or stuck k d below)).0)

-- no unit at an end, and else all
pub none_or_all : (i : Instance) (c suspects : List ℕ) (is_end : Bool) → (is_end ≡ true → IsEnd i c)
    → suspects ≡ cond is_end [] (range_with_len 0 (units_of i.family))
    → All (λ u. u < units_of i.family) suspects × MissesNone i c suspects
none_or_all i c suspects true end are = (
  subst (All (λ u. u < units_of i.family)) (sym are) (All-nil (λ u. u < units_of i.family)),
  λ e is poppable. absurd (end refl e is poppable),
)
none_or_all i c suspects false end are =
    (all_known (units_of i.family) suspects are, all_miss_none i c suspects are)
