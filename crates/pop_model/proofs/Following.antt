-- Where steps lead, and what a cube demands.
use Rattle.std.proofs.Common.{inl, inr, ◌≡◌, ◌⊎◌, ℕ, zero, suc, ◌+◌, ◌-◌, ◌<◌, ◌≤◌, true, false, cond, ◌==◌, [], ◌∷◌, length, get_or, Option, Some, None, refl, sym, ap, ap₂, subst, ◌∙◌, arith, Contains, add-zero, add-suc, eqb-true, eq-eqb, ne_eqb}
use Rattle.std.specs.Option.{option_and_then}
use Rattle.std.specs.List.Sorted.{IsStrictlyIncreasing}
use Rattle.std.proofs.lemmas.Bool.{cases_eq, cases_Bool, eqb-false}
use Rattle.std.proofs.lemmas.Option.{none-some, same_Some}
use Rattle.std.proofs.lemmas.List.{length-map, get_or-map}
use Rattle.std.proofs.lemmas.List.Kept.{AllPairs-from_increasing}
use Rattle.pop_model.specs.Popping.{Cube, names, variables}
use Rattle.pop_model.specs.Cycles.{follow, demand}
use Rattle.pop_model.proofs.Diamond.{named, names_it}

-- there is no number, or there is one
pub cases_Option : (o : Option ℕ) → (o ≡ None) ⊎ ((x : ℕ) × (o ≡ Some x))
cases_Option None = inl refl
cases_Option (Some x) = inr (x, refl)

-- more steps, from where the first ones led
pub follow_more : (step : ℕ → Option ℕ) (k j v w : ℕ) → follow step k v ≡ Some w
    → follow step (k + j) v ≡ follow step j w
follow_more step k zero v w h = ap (λ n. follow step n v) (add-zero k) ∙ h
follow_more step k (suc j) v w h = ap (λ n. follow step n v) (add-suc k j)
    ∙ ap (option_and_then step) (follow_more step k j v w h)

-- steps that came to the root don't leave it
pub follow_none : (step : ℕ → Option ℕ) (k j v : ℕ) → follow step k v ≡ None → follow step (k + j) v ≡ None
follow_none step k zero v h = ap (λ n. follow step n v) (add-zero k) ∙ h
follow_none step k (suc j) v h = ap (λ n. follow step n v) (add-suc k j)
    ∙ ap (option_and_then step) (follow_none step k j v h)

-- the step after some steps
pub follow_next : (step : ℕ → Option ℕ) (k v w : ℕ) → follow step k v ≡ Some w → follow step (suc k) v ≡ step w
follow_next step k v w h = ap (option_and_then step) h

-- steps that lead on led somewhere before
pub follow_before : (step : ℕ → Option ℕ) (k j v w : ℕ) → k ≤ j → follow step j v ≡ Some w
    → (u : ℕ) × (follow step k v ≡ Some u)
follow_before step k j v w le h = elim (cases_Option (follow step k v)) [
  | inl none ↦
      let sum : k + (j - k) ≡ j = omega arith in
      absurd (none-some w (sym (follow_none step k (j - k) v none) ∙ ap (λ n. follow step n v) sum ∙ h))
  | inr some ↦ some
]

-- a step that was made was there
pub follow_last : (step : ℕ → Option ℕ) (k v w : ℕ) → follow step (suc k) v ≡ Some w
    → (u : ℕ) × (follow step k v ≡ Some u) × (step u ≡ Some w)
follow_last step k v w h =
    let before = follow_before step k (suc k) v w (omega arith) h in
    (before.0, before.1, sym (follow_next step k v before.0 before.1) ∙ h)

-- what a cube demands stands in it
pub demand_contains : (e : Cube) (v x : ℕ) → demand e v ≡ Some x → Contains e (v, x)
demand_contains [] v x h = absurd (none-some x h)
demand_contains (p ∷ e) v x h = elim (cases_Bool (p.0 == v)) [
  | inl is ↦
      let value : p.1 ≡ x = same_Some p.1 x (sym (ap (λ b. cond b (Some p.1) (demand e v)) is) ∙ h) in
      (0, omega arith, ap₂ (λ (m n : ℕ). (m, n)) (eqb-true p.0 v is) value)
  | inr other ↦
      let rest = demand_contains e v x (sym (ap (λ b. cond b (Some p.1) (demand e v)) other) ∙ h) in
      (suc rest.0, omega (arith, rest.1), rest.2)
]

-- what a cube has of another variable than its first stands behind the first pair
tail : (p : ℕ × ℕ) (e : Cube) (v x : ℕ) → (p.0 == v) ≡ false → Contains (p ∷ e) (v, x) → Contains e (v, x)
tail p e v x other (zero, below, is) = absurd (eqb-false p.0 v other (ap (λ (q : ℕ × ℕ). q.0) is))
tail p e v x other (suc k, below, is) = (k, omega (arith, below), is)

-- what stands in it is demanded, or another value of its variable
pub contains_demand : (e : Cube) (v x : ℕ) → Contains e (v, x) → (y : ℕ) × (demand e v ≡ Some y)
contains_demand [] v x h = absurd (omega (arith, h.1))
contains_demand (p ∷ e) v x h = elim (cases_Bool (p.0 == v)) [
  | inl is ↦ (p.1, ap (λ b. cond b (Some p.1) (demand e v)) is)
  | inr other ↦
      let rest = tail p e v x other h in
      let found = contains_demand e v x rest in
      (found.0, ap (λ b. cond b (Some p.1) (demand e v)) other ∙ found.1)
]

-- a cube names each variable of which it demands a value
pub demand_named : (e : Cube) (v x : ℕ) → demand e v ≡ Some x → names e v ≡ true
demand_named e v x h = names_it e (v, x) (demand_contains e v x h)

-- and demands a value of each variable that it names
pub named_demand : (e : Cube) (v : ℕ) → names e v ≡ true → (x : ℕ) × (demand e v ≡ Some x)
named_demand e v h = let pair = named e v h in contains_demand e v pair.0 pair.1

-- the variables of a rising cube
abbrev pub Rises : Cube → Type 0
Rises e = IsStrictlyIncreasing (variables e)

-- variables that rise do so behind the first, too
pub rises_rest : (p : ℕ × ℕ) (e : Cube) → Rises (p ∷ e) → Rises e
rises_rest p e h k below =
    let size : length (variables (p ∷ e)) ≡ suc (length (variables e)) = refl in
    let next : suc k + 1 ≡ suc (k + 1) = omega arith in
    subst (λ n. get_or (variables (p ∷ e)) (suc k) 0 < get_or (variables (p ∷ e)) n 0) next (h (suc k) (omega arith))

-- a later variable is greater
pub later : (p : ℕ × ℕ) (e : Cube) (v x : ℕ) → Rises (p ∷ e) → Contains e (v, x) → p.0 < v
later p e v x h (k, below, is) =
    let size : length (variables e) ≡ length e = length-map e (λ (q : ℕ × ℕ). q.0) in
    let less : get_or (variables (p ∷ e)) 0 0 < get_or (variables (p ∷ e)) (suc k) 0 =
    AllPairs-from_increasing (variables (p ∷ e)) h 0 (suc k) 0 (omega arith) (omega arith) in
    let at : get_or (variables e) k 0 ≡ v = get_or-map (λ (q : ℕ × ℕ). q.0) e k (v, x) 0 below
    ∙ ap (λ (q : ℕ × ℕ). q.0) is in
    omega (arith, less, at)

-- what is demanded behind the first pair is of a greater variable
pub later_demand : (p : ℕ × ℕ) (e : Cube) (v x : ℕ) → Rises (p ∷ e) → demand e v ≡ Some x → p.0 < v
later_demand p e v x h d = later p e v x h (demand_contains e v x d)

-- of its first variable a cube demands the value of the first pair
pub demand_first : (p : ℕ × ℕ) (e : Cube) → demand (p ∷ e) p.0 ≡ Some p.1
demand_first p e = ap (λ b. cond b (Some p.1) (demand e p.0)) (eq-eqb p.0 p.0 refl)

-- of each other variable it demands what the pairs behind the first do
pub demand_rest : (p : ℕ × ℕ) (e : Cube) (v : ℕ) → (p.0 ≡ v → ⊥) → demand (p ∷ e) v ≡ demand e v
demand_rest p e v other = ap (λ b. cond b (Some p.1) (demand e v)) (ne_eqb p.0 v other)

-- a rising cube demands each pair that stands in it
pub rising_demand : (e : Cube) (v x : ℕ) → Rises e → Contains e (v, x) → demand e v ≡ Some x
rising_demand [] v x h (k, below, is) = absurd (omega (arith, below))
rising_demand (p ∷ e) v x h (zero, below, is) =
    subst (λ (q : ℕ × ℕ). demand (p ∷ e) q.0 ≡ Some q.1) is (demand_first p e)
rising_demand (p ∷ e) v x h (suc k, below, is) =
    let rest : Contains e (v, x) = (k, omega (arith, below), is) in
    let less : p.0 < v = later p e v x h rest in
    demand_rest p e v (λ same. absurd (omega arith)) ∙ rising_demand e v x (rises_rest p e h) rest

-- the first of a rising cube isn't demanded by the rest
none_first : (p : ℕ × ℕ) (e : Cube) → Rises (p ∷ e) → demand e p.0 ≡ None
none_first p e h = elim (cases_Option (demand e p.0)) [
  | inl none ↦ none
  | inr some ↦ let less : p.0 < p.0 = later_demand p e p.0 some.0 h some.1 in absurd (omega arith)
]

-- rising cubes that demand the same are equal
pub same_demands : (e f : Cube) → Rises e → Rises f → ((v : ℕ) → demand e v ≡ demand f v) → e ≡ f
same_demands [] [] re rf same = refl
same_demands [] (q ∷ f) re rf same = absurd (none-some q.1 (same q.0 ∙ demand_first q f))
same_demands (p ∷ e) [] re rf same = absurd (none-some p.1 (sym (same p.0) ∙ demand_first p e))
same_demands (p ∷ e) (q ∷ f) re rf same = elim (cases_eq p.0 q.0) [
  | inl var ↦
      let here : Some p.1 ≡ Some q.1 = sym (demand_first p e) ∙ same p.0 ∙ ap (demand (q ∷ f)) var ∙ demand_first q f in
      let pair : ◌≡◌ {A = ℕ × ℕ} p q = ap₂ (λ (m n : ℕ). (m, n)) var (same_Some p.1 q.1 here) in
      let rest : (v : ℕ) → demand e v ≡ demand f v = λ v. elim (cases_eq p.0 v) [
        | inl at ↦ ap (demand e) (sym at) ∙ none_first p e re ∙ sym (none_first q f rf) ∙ ap (demand f) (sym var ∙ at)
        | inr other ↦ sym (demand_rest p e v other) ∙ same v ∙ demand_rest q f v (λ h. other (var ∙ h))
      ] in
      ap₂ (λ (x : ℕ × ℕ) (xs : Cube). x ∷ xs) pair (same_demands e f (rises_rest p e re) (rises_rest q f rf) rest)
  | inr differ ↦
      let there : demand f p.0 ≡ Some p.1 = sym (demand_rest q f p.0 (λ h. differ (sym h))) ∙ sym (same p.0)
      ∙ demand_first p e in
      let back : demand e q.0 ≡ Some q.1 = sym (demand_rest p e q.0 differ) ∙ same q.0 ∙ demand_first q f in
      let less : q.0 < p.0 = later_demand q f p.0 p.1 rf there in
      let more : p.0 < q.0 = later_demand p e q.0 q.1 re back in
      absurd (omega arith)
]
