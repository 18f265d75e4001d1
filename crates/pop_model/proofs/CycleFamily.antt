-- A cycle is closed: each of its arrows leads to a variable of it, and from each variable the arrows lead to each
-- other one. So two cycles that share a variable and demand the same of each shared variable run together and
-- are equal.
use Rattle.std.proofs.Common.{inl, inr, ◌≡◌, ◌≢◌, ◌⊎◌, ℕ, zero, suc, ◌+◌, ◌-◌, true, List, [], ◌∷◌, length, get_or, Option, Some, None, refl, sym, ap, ap₂, subst, ◌∙◌, arith, Contains}
use Rattle.std.specs.Option.{option_and_then}
use Rattle.std.proofs.lemmas.Bool.{cases_eq, cases_lt}
use Rattle.std.proofs.lemmas.Option.{none-some, same_Some}
use Rattle.std.proofs.lemmas.List.{get_or-map}
use Rattle.std.proofs.lemmas.List.Elements.{Contains-get_or}
use Rattle.pop_model.specs.Popping.{Cube, IsCube, names}
use Rattle.pop_model.specs.Families.{Event}
use Rattle.pop_model.specs.Cycles.{IsCycle, head_of, follow, demand, arrow_in, first_of}
use Rattle.pop_model.specs.Extremal.{Exclude, IsExtremal}
use Rattle.pop_model.specs.Families.Family.{Cycles}
use Rattle.pop_model.proofs.Diamond.{names_it}
use Rattle.pop_model.proofs.Following.{cases_Option, follow_more, follow_before, follow_next, follow_last, demand_named, named_demand, demand_contains, same_demands}

-- for each variable where its slots lead; none is the root
abbrev pub Heads : Type 0
Heads = List (List (Option ℕ))

-- an arrow of a cube goes by what the cube demands
pub arrow_demands : (heads : Heads) (e : Cube) (v x : ℕ) → demand e v ≡ Some x → arrow_in heads e v ≡ head_of heads v x
arrow_demands heads e v x h = ap (option_and_then (head_of heads v)) h

-- and leaves a variable of it
pub arrow_named : (heads : Heads) (e : Cube) (v w : ℕ) → arrow_in heads e v ≡ Some w → names e v ≡ true
arrow_named heads e v w h = elim (cases_Option (demand e v)) [
  | inl none ↦ absurd (none-some w (sym (ap (option_and_then (head_of heads v)) none) ∙ h))
  | inr some ↦ demand_named e v some.0 some.1
]

-- a cube names its first variable
pub first_named : (e : Cube) → IsCube e → names e (first_of e) ≡ true
first_named e cube =
    let at : first_of e ≡ (get_or e 0 (0, 0)).0 = get_or-map (λ (p : ℕ × ℕ). p.0) e 0 (0, 0) 0 cube.some in
    subst (λ v. names e v ≡ true) (sym at) (names_it e (get_or e 0 (0, 0)) (Contains-get_or e 0 (0, 0) cube.some))

-- where the arrow of a variable leads
pub record StaysIn (heads : Heads) (e : Cube) (v : ℕ) : Type 0 where
  pub next : ℕ
  pub leads : arrow_in heads e v ≡ Some next
  pub named : names e next ≡ true

-- the arrow of each variable of a cycle leads to a variable of it
pub stays_in : (heads : Heads) (e : Cube) → IsCycle heads e → (v : ℕ) → names e v ≡ true → StaysIn heads e v
stays_in heads e is v at =
    let step = arrow_in heads e in
    let a = first_of e in
    let met = is.meets v at in
    let k = met.0 in
    let on = follow_before step (suc k) (length e) a a (omega (arith, met.1)) is.returns in
    let leads : step v ≡ Some on.0 = sym (follow_next step k a v met.2) ∙ on.1 in
    record {
      next = on.0;
      leads = leads;
      named = elim (cases_lt (suc k) (length e)) [
        | inl more ↦
            let further = follow_before step (suc (suc k)) (length e) a a (omega arith) is.returns in
            arrow_named heads e on.0 further.0 (sym (follow_next step (suc k) a on.0 on.1) ∙ further.1)
        | inr last ↦
            let whole : suc k ≡ length e = omega (arith, met.1) in
            let same : on.0 ≡ a = same_Some on.0 a (sym on.1 ∙ ap (λ n. follow step n a) whole ∙ is.returns) in
            subst (λ w. names e w ≡ true) (sym same) (first_named e is.cube)
      ];
    }

-- the arrows lead from each variable of a cycle to each
pub leads_on_cycle : (heads : Heads) (e : Cube) → IsCycle heads e → (v w : ℕ) → names e v ≡ true → names e w ≡ true
    → (k : ℕ) × (follow (arrow_in heads e) k v ≡ Some w)
leads_on_cycle heads e is v w at_v at_w =
    let step = arrow_in heads e in
    let a = first_of e in
    let i = is.meets v at_v in
    let j = is.meets w at_w in
    let back = length e - i.0 in
    let whole : i.0 + back ≡ length e = omega (arith, i.1) in
    let home : follow step back v ≡ Some a = sym (follow_more step i.0 back a v i.2) ∙ ap (λ n. follow step n a) whole
    ∙ is.returns in
    (back + j.0, follow_more step back j.0 v a home ∙ j.2)

-- what each of the pairs that both cubes have demands is the same
abbrev pub Agree : Cube → Cube → Type 0
Agree e f = (v x y : ℕ) → demand e v ≡ Some x → demand f v ≡ Some y → x ≡ y

-- where each pair of a cube agrees with another cube, and one more in front does, so does each of these
first_or : (q : ℕ × ℕ) (e f : Cube) → ((p : ℕ × ℕ) → Contains e p → (y : ℕ) → demand f p.0 ≡ Some y → p.1 ≡ y)
    → ((z : ℕ) → demand f q.0 ≡ Some z → q.1 ≡ z)
    → (p : ℕ × ℕ) → Contains (q ∷ e) p → (y : ℕ) → demand f p.0 ≡ Some y → p.1 ≡ y
first_or q e f rest here p (zero, below, is) y at = ap (λ (r : ℕ × ℕ). r.1) (sym is)
    ∙ here y (ap (λ (r : ℕ × ℕ). demand f r.0) is ∙ at)
first_or q e f rest here p (suc k, below, is) y at = rest p (k, omega (arith, below), is) y at

-- cubes exclude each other or agree
agree_or_not : (e f : Cube)
    → ((p : ℕ × ℕ) × (y : ℕ) × Contains e p × (demand f p.0 ≡ Some y) × (p.1 ≢ y))
    ⊎ ((p : ℕ × ℕ) → Contains e p → (y : ℕ) → demand f p.0 ≡ Some y → p.1 ≡ y)
agree_or_not [] f = inr (λ p h. absurd (omega (arith, h.1)))
agree_or_not (q ∷ e) f = elim (agree_or_not e f) [
  | inl (p, y, has, at, differ) ↦ inl (p, y, (suc has.0, omega (arith, has.1), has.2), at, differ)
  | inr rest ↦ elim (cases_Option (demand f q.0)) [
    | inl none ↦ inr (λ p h y at. first_or q e f rest (λ z b. absurd (none-some z (sym none ∙ b))) p h y at)
    | inr some ↦ elim (cases_eq q.1 some.0) [
      | inl same ↦ inr (λ p h y at. first_or q e f rest (λ z b. same ∙ same_Some some.0 z (sym some.1 ∙ b)) p h y at)
      | inr differ ↦ inl (q, some.0, (0, omega arith, refl), some.1, differ)
    ]
  ]
]

-- two cubes demand different values of some variable that they share, or they agree
pub exclude_or_agree : (e f : Cube) → Exclude e f ⊎ Agree e f
exclude_or_agree e f = elim (agree_or_not e f) [
  | inl (p, y, has, at, differ) ↦ inl (p.0, p.1, y, has, demand_contains f p.0 y at, differ)
  | inr same ↦ inr (λ v x y in_e in_f. same (v, x) (demand_contains e v x in_e) y in_f)
]

-- at a variable of both cycles the arrow is the same
pub record StaysInBoth (heads : Heads) (e f : Cube) (v : ℕ) : Type 0 where
  pub next : ℕ
  pub leads_e : arrow_in heads e v ≡ Some next
  pub leads_f : arrow_in heads f v ≡ Some next
  pub named_e : names e next ≡ true
  pub named_f : names f next ≡ true

-- where two cycles agree, the arrow of a variable of both leads to a variable of both
stays_in_both : (heads : Heads) (e f : Cube) → IsCycle heads e → IsCycle heads f → Agree e f → (v : ℕ)
    → names e v ≡ true → names f v ≡ true → StaysInBoth heads e f v
stays_in_both heads e f is_e is_f agree v at_e at_f =
    let x = named_demand e v at_e in
    let y = named_demand f v at_f in
    let same : arrow_in heads e v ≡ arrow_in heads f v = arrow_demands heads e v x.0 x.1
    ∙ ap (head_of heads v) (agree v x.0 y.0 x.1 y.1) ∙ sym (arrow_demands heads f v y.0 y.1) in
    let on = stays_in heads e is_e v at_e in
    let other = stays_in heads f is_f v at_f in
    let one : other.next ≡ on.next = same_Some other.next on.next (sym other.leads ∙ sym same ∙ on.leads) in
    record { next = on.next; leads_e = on.leads; leads_f = sym same ∙ on.leads; named_e = on.named; named_f = subst (λ w. names f w ≡ true) one other.named }

-- from a shared variable one cycle leads through variables of the other
leads_in_both : (heads : Heads) (e f : Cube) → IsCycle heads e → IsCycle heads f → Agree e f → (v : ℕ)
    → names e v ≡ true → names f v ≡ true
    → (k w : ℕ) → follow (arrow_in heads e) k v ≡ Some w → (names e w ≡ true) × (names f w ≡ true)
leads_in_both heads e f is_e is_f agree v at_e at_f zero w h = let same : v ≡ w =
    same_Some v w h in (subst (λ u. names e u ≡ true) same at_e, subst (λ u. names f u ≡ true) same at_f)
leads_in_both heads e f is_e is_f agree v at_e at_f (suc k) w h =
    let last = follow_last (arrow_in heads e) k v w h in
    let both = leads_in_both heads e f is_e is_f agree v at_e at_f k last.0 last.1 in
    let on = stays_in_both heads e f is_e is_f agree last.0 both.0 both.1 in
    let same : on.next ≡ w = same_Some on.next w (sym on.leads_e ∙ last.2) in
    (subst (λ u. names e u ≡ true) same on.named_e, subst (λ u. names f u ≡ true) same on.named_f)

-- what one demands, the other demands
demanded : (heads : Heads) (e f : Cube) → IsCycle heads e → IsCycle heads f → Agree e f → (v : ℕ) → names e v ≡ true
    → names f v ≡ true
    → (w x : ℕ) → demand e w ≡ Some x → demand f w ≡ Some x
demanded heads e f is_e is_f agree v at_e at_f w x h =
    let walk = leads_on_cycle heads e is_e v w at_e (demand_named e w x h) in
    let both = leads_in_both heads e f is_e is_f agree v at_e at_f walk.0 w walk.1 in
    let y = named_demand f w both.1 in
    y.1 ∙ ap (λ n. Some n) (sym (agree w x y.0 h y.1))

-- two demands are the same where what either asks for the other asks for, too
same_option : (a b : Option ℕ) → ((x : ℕ) → a ≡ Some x → b ≡ Some x) → ((x : ℕ) → b ≡ Some x → a ≡ Some x) → a ≡ b
same_option None None f g = refl
same_option None (Some y) f g = g y refl
same_option (Some x) b f g = sym (f x refl)

-- cycles that share a variable and agree are equal
pub same_cycle : (heads : Heads) (e f : Cube) → IsCycle heads e → IsCycle heads f → Agree e f → (v : ℕ)
    → names e v ≡ true → names f v ≡ true → e ≡ f
same_cycle heads e f is_e is_f agree v at_e at_f =
    same_demands e f is_e.cube.rising is_f.cube.rising (λ w. same_option (demand e w) (demand f w)
    (λ x h. demanded heads e f is_e is_f agree v at_e at_f w x h)
    (λ x h. demanded heads f e is_f is_e (λ u y z a b. sym (agree u z y b a)) v at_f at_e w x h))

-- the event of a cube, under a unit
made : ℕ → Cube → Event
made u e = record { unit = u; cube = e }

-- Two different cycles that share a variable demand different slots of some shared variable.
pub cycles_extremal : (heads : Heads) → IsExtremal (Cycles heads)
unfolding made
cycles_extremal heads e f is_e is_f differ (v, x, y, in_e, in_f) = elim (exclude_or_agree e.cube f.cube) [
  | inl exclude ↦ exclude
  | inr agree ↦
      let cubes : e.cube ≡ f.cube =
      same_cycle heads e.cube f.cube is_e.0 is_f.0 agree v (names_it e.cube (v, x) in_e) (names_it f.cube (v, y) in_f) in
      let units : e.unit ≡ f.unit = is_e.1 ∙ ap first_of cubes ∙ sym is_f.1 in
      absurd (differ (ap₂ made units cubes))
]
