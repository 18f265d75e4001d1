-- Variables that are passed one after another, without repetition, and whose last arrow leads to the first: their
-- pairs, put in order, are a cycle. A path without repetition is at most as long as there are variables.
use Rattle.std.proofs.Common.{inl, inr, ◌≡◌, ◌≢◌, ℕ, zero, suc, ◌+◌, ◌<◌, ◌≤◌, cond, ltb, ◌==◌, [], ◌∷◌, length, get_or, Some, None, refl, sym, ap, subst, ◌∙◌, arith}
use Rattle.std.proofs.lemmas.Bool.{cases_eq, cases_Bool, ltb-true, ltb-false}
use Rattle.std.specs.Bool.{⊤}
use Rattle.std.proofs.lemmas.Option.{none-some, same_Some}
use Rattle.pop_model.specs.Popping.{Cube, variables}
use Rattle.pop_model.specs.Cycles.{demand}
use Rattle.pop_model.proofs.Following.{cases_Option, demand_first, demand_rest, Rises}

-- a cube with a pair put in before the first greater variable
abbrev pub put_in : ℕ × ℕ → Cube → Cube
put_in p [] = p ∷ []
put_in p (q ∷ e) = cond (ltb p.0 q.0) (p ∷ q ∷ e) (q ∷ put_in p e)

-- a cube into which a pair was put has one pair more
length-put_in : (p : ℕ × ℕ) (e : Cube) → length (put_in p e) ≡ suc (length e)
length-put_in p [] = refl
length-put_in p (q ∷ e) = elim (cases_Bool (ltb p.0 q.0)) [
  | inl is ↦ ap (λ b. length (cond b (p ∷ q ∷ e) (q ∷ put_in p e))) is
  | inr other ↦ ap (λ b. length (cond b (p ∷ q ∷ e) (q ∷ put_in p e))) other ∙ ap suc (length-put_in p e)
]

-- the value of the pair that was put in is demanded
demand_put_same : (p : ℕ × ℕ) (e : Cube) → demand e p.0 ≡ None → demand (put_in p e) p.0 ≡ Some p.1
demand_put_same p [] h = demand_first p []
demand_put_same p (q ∷ e) h = elim (cases_Bool (ltb p.0 q.0)) [
  | inl is ↦ ap (λ b. demand (cond b (p ∷ q ∷ e) (q ∷ put_in p e)) p.0) is ∙ demand_first p (q ∷ e)
  | inr other ↦ elim (cases_eq q.0 p.0) [
    | inl same ↦ absurd (none-some q.1 (sym h ∙ ap (demand (q ∷ e)) (sym same) ∙ demand_first q e))
    | inr differ ↦ ap (λ b. demand (cond b (p ∷ q ∷ e) (q ∷ put_in p e)) p.0) other
        ∙ demand_rest q (put_in p e) p.0 differ ∙ demand_put_same p e (sym (demand_rest q e p.0 differ) ∙ h)
  ]
]

-- of each other variable what is demanded stays
demand_put_other : (p : ℕ × ℕ) (e : Cube) (v : ℕ) → (p.0 ≡ v → ⊥) → demand (put_in p e) v ≡ demand e v
demand_put_other p [] v h = demand_rest p [] v h
demand_put_other p (q ∷ e) v h = elim (cases_Bool (ltb p.0 q.0)) [
  | inl is ↦ ap (λ b. demand (cond b (p ∷ q ∷ e) (q ∷ put_in p e)) v) is ∙ demand_rest p (q ∷ e) v h
  | inr other ↦ ap (λ b. demand (cond b (p ∷ q ∷ e) (q ∷ put_in p e)) v) other
      ∙ ap (λ o. cond (q.0 == v) (Some q.1) o) (demand_put_other p e v h)
]

-- each variable is below those behind it
abbrev pub Ascends : Cube → Type 0
Ascends [] = ⊤
Ascends (p ∷ e) = ((v x : ℕ) → demand e v ≡ Some x → p.0 < v) × Ascends e

-- variables that ascend still do where a pair of a new one is put in
ascends_put : (p : ℕ × ℕ) (e : Cube) → demand e p.0 ≡ None → Ascends e → Ascends (put_in p e)
ascends_put p [] h a = (λ v x d. absurd (none-some x d), tt)
ascends_put p (q ∷ e) h a = elim (cases_Bool (ltb p.0 q.0)) [
  | inl is ↦
      let less : p.0 < q.0 = ltb-true p.0 q.0 is in
      subst (λ b. Ascends (cond b (p ∷ q ∷ e) (q ∷ put_in p e))) (sym is)
      (λ v x d. elim (cases_eq q.0 v) [ inl same ↦ omega arith | inr differ ↦ let far : q.0 < v = a.0 v x (sym (demand_rest q e v differ) ∙ d) in omega arith ], a)
  | inr other ↦ elim (cases_eq q.0 p.0) [
    | inl same ↦ absurd (none-some q.1 (sym h ∙ ap (demand (q ∷ e)) (sym same) ∙ demand_first q e))
    | inr differ ↦
        let less : q.0 ≤ p.0 = ltb-false p.0 q.0 other in
        subst (λ b. Ascends (cond b (p ∷ q ∷ e) (q ∷ put_in p e))) (sym other) (
          λ v x d. elim (cases_eq p.0 v) [ inl same ↦ omega arith | inr apart ↦ a.0 v x (sym (demand_put_other p e v apart) ∙ d) ],
          ascends_put p e (sym (demand_rest q e p.0 differ) ∙ h) a.1,
        )
  ]
]

-- a cube whose variables ascend has rising variables
pub ascends_rises : (e : Cube) → Ascends e → Rises e
ascends_rises [] a k h = absurd (omega (arith, h))
ascends_rises (p ∷ []) a k h = absurd (omega (arith, h))
ascends_rises (p ∷ q ∷ e) a zero h = a.0 q.0 q.1 (demand_first q e)
ascends_rises (p ∷ q ∷ e) a (suc k) h =
    let next : suc k + 1 ≡ suc (k + 1) = omega arith in
    let rest = ascends_rises (q ∷ e) a.1 k (omega (arith, h)) in
    subst (λ n. get_or (variables (p ∷ q ∷ e)) (suc k) 0 < get_or (variables (p ∷ q ∷ e)) n 0) (sym next) rest

-- variables from b to below n
pub ascends_short : (e : Cube) (b n : ℕ) → Ascends e → ((v x : ℕ) → demand e v ≡ Some x → (b ≤ v) × (v < n)) → b ≤ n
    → length e + b ≤ n
ascends_short [] b n a within le = omega arith
ascends_short (p ∷ e) b n a within le =
    let here = within p.0 p.1 (demand_first p e) in
    let rest = ascends_short e (suc b) n a.1 (λ v x d. let far : p.0 < v = a.0 v x d in
    let differ : p.0 ≢ v = λ h. absurd (omega arith) in
    let there = within v x (demand_rest p e v differ ∙ d) in
    (omega (arith, here.0, far), there.1)) (omega (arith, here.0, here.1)) in
    omega (arith, rest)

-- the pairs of the variables that stand at places i on, n of them
abbrev pub loop_cube : (ℕ → ℕ) → (ℕ → ℕ) → ℕ → ℕ → Cube
loop_cube slot at i zero = []
loop_cube slot at i (suc n) = put_in (at i, slot (at i)) (loop_cube slot at (suc i) n)

-- no variable stands at two of these places
abbrev pub Distinct : (ℕ → ℕ) → ℕ → ℕ → Type 0
Distinct at i n = (a b : ℕ) → i ≤ a → a < b → b < i + n → at a ≢ at b

-- variables that stand at one place each do so from the second place on
pub distinct_rest : (at : ℕ → ℕ) (i n : ℕ) → Distinct at i (suc n) → Distinct at (suc i) n
distinct_rest at i n d a b le lt below = d a b (omega arith) lt (omega arith)

-- a loop has a pair for each of its places
pub length-loop : (slot at : ℕ → ℕ) (i n : ℕ) → length (loop_cube slot at i n) ≡ n
length-loop slot at i zero = refl
length-loop slot at i (suc n) = length-put_in (at i, slot (at i)) (loop_cube slot at (suc i) n)
    ∙ ap suc (length-loop slot at (suc i) n)

-- a variable that the loop demands stands at one of the places
pub record StandsIn (slot at : ℕ → ℕ) (i n v x : ℕ) : Type 0 where
  pub place : ℕ
  pub from : i ≤ place
  pub below : place < i + n
  pub is : at place ≡ v
  pub value : x ≡ slot v

-- a variable of which the loop demands no value has no demand
mutual_none : (slot at : ℕ → ℕ) (i n v : ℕ) → ((x : ℕ) → demand (loop_cube slot at i n) v ≡ Some x → ⊥)
    → demand (loop_cube slot at i n) v ≡ None
mutual_none slot at i n v h =
    elim (cases_Option (demand (loop_cube slot at i n) v)) [ inl none ↦ none | inr some ↦ absurd (h some.0 some.1) ]

-- the loop demands nothing but the slots of the variables at its places
pub loop_only : (slot at : ℕ → ℕ) (i n : ℕ) → Distinct at i n → (v x : ℕ) → demand (loop_cube slot at i n) v ≡ Some x
    → StandsIn slot at i n v x
loop_only slot at i zero d v x h = absurd (none-some x h)
loop_only slot at i (suc n) d v x h =
    let p : ℕ × ℕ = (at i, slot (at i)) in
    let e = loop_cube slot at (suc i) n in
    elim (cases_eq (at i) v) [
      | inl same ↦
          let none : demand e (at i) ≡ None = mutual_none slot at (suc i) n (at i) (λ y g.
          let stands = loop_only slot at (suc i) n (distinct_rest at i n d) (at i) y g in
          d i stands.place (omega arith) (omega (arith, stands.from)) (omega (arith, stands.below)) (sym stands.is)) in
          let value : slot (at i) ≡ x =
          same_Some (slot (at i)) x (sym (demand_put_same p e none) ∙ ap (demand (put_in p e)) same ∙ h) in
          record { place = i; from = omega arith; below = omega arith; is = same; value = sym value ∙ ap slot same }
      | inr other ↦
          let rest = loop_only slot at (suc i) n (distinct_rest at i n d) v x (sym (demand_put_other p e v other) ∙ h) in
          record { place = rest.place; from = omega (arith, rest.from); below = omega (arith, rest.below); is = rest.is; value = rest.value }
    ]

-- and each variable that stands there is demanded
pub loop_has : (slot at : ℕ → ℕ) (i n : ℕ) → Distinct at i n → (k : ℕ) → i ≤ k → k < i + n
    → demand (loop_cube slot at i n) (at k) ≡ Some (slot (at k))
loop_has slot at i zero d k from below = absurd (omega arith)
loop_has slot at i (suc n) d k from below =
    let p : ℕ × ℕ = (at i, slot (at i)) in
    let e = loop_cube slot at (suc i) n in
    elim (cases_eq i k) [
      | inl same ↦
          let none : demand e (at i) ≡ None = mutual_none slot at (suc i) n (at i) (λ y g.
          let stands = loop_only slot at (suc i) n (distinct_rest at i n d) (at i) y g in
          d i stands.place (omega arith) (omega (arith, stands.from)) (omega (arith, stands.below)) (sym stands.is)) in
          subst (λ j. demand (put_in p e) (at j) ≡ Some (slot (at j))) same (demand_put_same p e none)
      | inr other ↦
          demand_put_other p e (at k) (d i k (omega arith) (omega arith) (omega arith))
          ∙ loop_has slot at (suc i) n (distinct_rest at i n d) k (omega arith) (omega arith)
    ]

-- the variables of a loop ascend
pub loop_ascends : (slot at : ℕ → ℕ) (i n : ℕ) → Distinct at i n → Ascends (loop_cube slot at i n)
loop_ascends slot at i zero d = tt
loop_ascends slot at i (suc n) d =
    let p : ℕ × ℕ = (at i, slot (at i)) in
    let e = loop_cube slot at (suc i) n in
    let none : demand e (at i) ≡ None = mutual_none slot at (suc i) n (at i) (λ y g.
    let stands = loop_only slot at (suc i) n (distinct_rest at i n d) (at i) y g in
    d i stands.place (omega arith) (omega (arith, stands.from)) (omega (arith, stands.below)) (sym stands.is)) in
    ascends_put p e none (loop_ascends slot at (suc i) n (distinct_rest at i n d))

-- a path of variables below n is at most n long
pub path_short : (at : ℕ → ℕ) (i m n : ℕ) → Distinct at i m → ((k : ℕ) → i ≤ k → k < i + m → at k < n) → m ≤ n
path_short at i m n d below =
    let slot : ℕ → ℕ = λ v. v in
    let e = loop_cube slot at i m in
    let short = ascends_short e 0 n (loop_ascends slot at i m d) (λ v x h.
    let stands = loop_only slot at i m d v x h in
    (omega arith, subst (λ w. w < n) stands.is (below stands.place stands.from stands.below))) (omega arith) in
    omega (arith, short, length-loop slot at i m)
