-- A cube is a cycle just where following its arrows from its first variable comes back there after as many steps as it
-- has pairs, and after none before. If two of these steps met one variable, the steps would come back earlier, by as
-- many as lie between the two. So they meet as many different variables as the cube has, which are all of them. And
-- if the steps of a cycle came back earlier, they would meet fewer variables than it has.
use Rattle.std.proofs.Common.{inl, inr, ◌≡◌, ◌≢◌, ◌⊎◌, ℕ, zero, suc, ◌+◌, ◌-◌, ◌<◌, ◌≤◌, true, length, get_or, slice_index, Some, None, sym, ap, subst, ◌∙◌, arith, Contains}
use Rattle.std.proofs.lemmas.Bool.{cases_lt, cases_order}
use Rattle.std.proofs.lemmas.Option.{none-some, same_Some}
use Rattle.std.proofs.lemmas.List.{length-map, get_or-map}
use Rattle.std.proofs.lemmas.List.Elements.{Contains-get_or}
use Rattle.std.proofs.lemmas.List.Kept.{AllPairs-from_increasing}
use Rattle.pop_model.specs.Popping.{Cube, IsCube, variables, names}
use Rattle.pop_model.specs.Cycles.{IsCycle, follow, arrow_in, first_of}
use Rattle.pop_model.proofs.Diamond.{named, names_it}
use Rattle.pop_model.proofs.Members.{variable_at}
use Rattle.pop_model.proofs.Following.{follow_more, follow_none, follow_next, follow_before, follow_last}
use Rattle.pop_model.proofs.CycleFamily.{Heads, arrow_named}
use Rattle.pop_model.proofs.Loops.{path_short}
use Rattle.pop_model.proofs.TreeEnd.{find}

-- a choice at each number below m
pub record Choice (m : ℕ) (P : ℕ → ℕ → Type 0) : Type 0 where
  pub at : ℕ → ℕ
  pub holds : (i : ℕ) → i < m → P i (at i)

-- where there is a number for each one below m, one is chosen for each
choose : (m : ℕ) (P : ℕ → ℕ → Type 0) → ((i : ℕ) → i < m → (k : ℕ) × P i k) → Choice m P
choose m P some = record { at = λ i. pick i (cases_lt i m); holds = λ i below. picked i below (cases_lt i m) }
  where
    pick : (i : ℕ) → (i < m) ⊎ (m ≤ i) → ℕ
    pick i (inl below) = (some i below).0
    pick i (inr past) = 0

    picked : (i : ℕ) → i < m → (c : (i < m) ⊎ (m ≤ i)) → P i (pick i c)
    picked i below (inl here) = (some i here).1
    picked i below (inr past) = absurd (omega arith)

-- m numbers that have different places below n are at most n
few_places : (m n : ℕ) (P : ℕ → ℕ → Type 0) → ((i : ℕ) → i < m → (k : ℕ) × ((k < n) × P i k))
    → ((i j k : ℕ) → i < m → j < m → P i k → P j k → i ≡ j) → m ≤ n
few_places m n P places apart =
    let chosen = choose m (λ i k. (k < n) × P i k) places in
    path_short chosen.at 0 m n
    (λ a b from less below same.
    let first = (chosen.holds a (omega arith)).1 in
    let second = (chosen.holds b (omega arith)).1 in
    let equal : a ≡ b = apart a b (chosen.at b) (omega arith) (omega arith) (subst (P a) same first) second in
    absurd (omega arith))
    (λ k from below. (chosen.holds k (omega arith)).0)

-- the variable of a member
variable_of : (e : Cube) (v x : ℕ) (has : Contains e (v, x)) → slice_index (variables e) has.0 ≡ v
variable_of e v x has = get_or-map (λ (p : ℕ × ℕ). p.0) e has.0 (v, x) 0 has.1 ∙ ap (λ (p : ℕ × ℕ). p.0) has.2

module _ (heads : Heads) (e : Cube) (cube : IsCube e) where
  -- the variable at a place is named
  named_at : (i : ℕ) → i < length e → names e (slice_index (variables e) i) ≡ true
  named_at i inside = subst (λ v. names e v ≡ true) (sym (variable_at e i inside))
      (names_it e (get_or e i (0, 0)) (Contains-get_or e i (0, 0) inside))

  -- places with one variable are one
  one_place : (i j : ℕ) → i < length e → j < length e → slice_index (variables e) i ≡ slice_index (variables e) j
      → i ≡ j
  one_place i j inside_i inside_j same =
      let size : length (variables e) ≡ length e = length-map e (λ (p : ℕ × ℕ). p.0) in
      elim (cases_order i j) [
        | inl equal ↦ equal
        | inr (inl before) ↦
            let less : slice_index (variables e) i < slice_index (variables e) j =
            AllPairs-from_increasing (variables e) cube.rising i j 0 before (omega arith) in absurd (omega arith)
        | inr (inr behind) ↦
            let less : slice_index (variables e) j < slice_index (variables e) i =
            AllPairs-from_increasing (variables e) cube.rising j i 0 behind (omega arith) in absurd (omega arith)
      ]

  -- the steps come back after as many as the cube has pairs, and after none before
  pub record ReturnsAtLength : Type 0 where
    pub returns : follow (arrow_in heads e) (length e) (first_of e) ≡ Some (first_of e)
    pub not_before : (k : ℕ) → 0 < k → k < length e
        → follow (arrow_in heads e) k (first_of e) ≡ Some (first_of e) → ⊥

  -- where they lead at each step before they come back
  passes : ReturnsAtLength → Choice (length e) (λ k u. follow (arrow_in heads e) k (first_of e) ≡ Some u)
  passes ring = choose (length e) (λ k u. follow (arrow_in heads e) k (first_of e) ≡ Some u) (λ k below.
      follow_before (arrow_in heads e) k (length e) (first_of e) (first_of e) (omega arith) ring.returns)

  -- to variables of the cube
  passes_named : ReturnsAtLength → (k u : ℕ) → k < length e → follow (arrow_in heads e) k (first_of e) ≡ Some u
      → names e u ≡ true
  passes_named ring k u below is =
      let step = arrow_in heads e in
      let next = follow_before step (suc k) (length e) (first_of e) (first_of e) (omega arith) ring.returns in
      let last = follow_last step k (first_of e) next.0 next.1 in
      let same : last.0 ≡ u = same_Some last.0 u (sym last.1 ∙ is) in
      subst (λ v. names e v ≡ true) same (arrow_named heads e last.0 next.0 last.2)

  -- and not twice to one
  passes_once : ReturnsAtLength → (i j u : ℕ) → i < j → j < length e
      → follow (arrow_in heads e) i (first_of e) ≡ Some u → follow (arrow_in heads e) j (first_of e) ≡ Some u → ⊥
  passes_once ring i j u less below at_i at_j =
      let step = arrow_in heads e in
      let rest = length e - j in
      let whole : j + rest ≡ length e = omega arith in
      let home : follow step rest u ≡ Some (first_of e) = sym (follow_more step j rest (first_of e) u at_j)
      ∙ ap (λ n. follow step n (first_of e)) whole ∙ ring.returns in
      ring.not_before (i + rest) (omega arith) (omega arith) (follow_more step i rest (first_of e) u at_i ∙ home)

  -- the variable of a step before they come back, and one variable more behind these
  abbrev Met : ℕ → ℕ → ℕ → Type 0
  Met v i u = ((i < length e) × (follow (arrow_in heads e) i (first_of e) ≡ Some u)) ⊎ ((length e ≤ i) × (u ≡ v))

  -- if the one more isn't met, each variable is that of one step
  one_step : ReturnsAtLength → (v : ℕ) → ((k : ℕ) → k < length e → follow (arrow_in heads e) k (first_of e) ≡ Some v → ⊥)
      → (i j u : ℕ) → i < suc (length e) → j < suc (length e) → Met v i u → Met v j u → i ≡ j
  one_step ring v none i j u most_i most_j (inl at_i) (inl at_j) = elim (cases_order i j) [
    | inl equal ↦ equal
    | inr (inl before) ↦ absurd (passes_once ring i j u before at_j.0 at_i.1 at_j.1)
    | inr (inr behind) ↦ absurd (passes_once ring j i u behind at_i.0 at_j.1 at_i.1)
  ]
  one_step ring v none i j u most_i most_j (inl at_i) (inr last) =
      absurd (none i at_i.0 (at_i.1 ∙ ap (λ w. Some w) last.1))
  one_step ring v none i j u most_i most_j (inr last) (inl at_j) =
      absurd (none j at_j.0 (at_j.1 ∙ ap (λ w. Some w) last.1))
  one_step ring v none i j u most_i most_j (inr last) (inr last') = omega (arith, last.0, last'.0)

  -- a variable of the cube is met: else it and those that are met would be more than the cube has
  return_meets : ReturnsAtLength → (v : ℕ) → names e v ≡ true
      → (k : ℕ) × (k < length e) × (follow (arrow_in heads e) k (first_of e) ≡ Some v)
  return_meets ring v at_v =
      let n = length e in
      let chosen = passes ring in
      let place : (u : ℕ) → names e u ≡ true → (k : ℕ) × ((k < n) × (slice_index (variables e) k ≡ u)) =
      λ u is. let pair = named e u is in (pair.1.0, (pair.1.1, variable_of e u pair.0 pair.1)) in
      elim (find chosen.at v n) [
        | inl (k, below, is) ↦ (k, below, chosen.holds k below ∙ ap (λ w. Some w) is)
        | inr none ↦
            let more : suc n ≤ n = few_places (suc n) n (λ i k. Met v i (slice_index (variables e) k))
            (λ i below. elim (cases_lt i n) [
              | inl inside ↦
                  let at = chosen.holds i inside in
                  let there = place (chosen.at i) (passes_named ring i (chosen.at i) inside at) in
                  (there.0, (there.1.0, inl (inside, at ∙ ap (λ w. Some w) (sym there.1.1))))
              | inr last ↦ let there = place v at_v in (there.0, (there.1.0, inr (last, there.1.1)))
            ])
            (λ i j k below_i below_j. one_step ring v (λ m inside at.
            none m inside (same_Some (chosen.at m) v (sym (chosen.holds m inside) ∙ at))) i j
            (slice_index (variables e) k) below_i below_j) in
            absurd (omega arith)
      ]

  -- so it is a cycle
  pub return_is_cycle : ReturnsAtLength → IsCycle heads e
  return_is_cycle ring = record { cube = cube; returns = ring.returns; meets = return_meets ring }

  -- where steps come back after k, what is met is met among the first k
  met_early : (k : ℕ) → 0 < k → follow (arrow_in heads e) k (first_of e) ≡ Some (first_of e) → (bound j w : ℕ)
      → j < bound → follow (arrow_in heads e) j (first_of e) ≡ Some w
      → (i : ℕ) × ((i < k) × (follow (arrow_in heads e) i (first_of e) ≡ Some w))
  met_early k some home zero j w less at = absurd (omega arith)
  met_early k some home (suc bound) j w less at = elim (cases_lt j k) [
    | inl early ↦ (j, (early, at))
    | inr late ↦
        let step = arrow_in heads e in
        let whole : k + (j - k) ≡ j = omega arith in
        let again : follow step (j - k) (first_of e) ≡ Some w =
        sym (follow_more step k (j - k) (first_of e) (first_of e) home) ∙ ap (λ n. follow step n (first_of e)) whole
        ∙ at in
        met_early k some home bound (j - k) w (omega arith) again
  ]

  -- and a cycle goes round
  pub cycle_returns : IsCycle heads e → ReturnsAtLength
  cycle_returns is = record {
    returns = is.returns;
    not_before = λ k some early home.
        let few : length e ≤ k = few_places (length e) k
        (λ i m. follow (arrow_in heads e) m (first_of e) ≡ Some (slice_index (variables e) i))
        (λ i inside.
        let met = is.meets (slice_index (variables e) i) (named_at i inside) in
        met_early k some home (suc met.0) met.0 (slice_index (variables e) i) (omega arith) met.2)
        (λ i j m inside_i inside_j at_i at_j. one_place i j inside_i inside_j
        (same_Some (slice_index (variables e) i) (slice_index (variables e) j) (sym at_i ∙ at_j))) in
        absurd (omega arith);
  }

-- the steps before step n led to this variable, and none of them came back
pub record AreSteps (heads : Heads) (e : Cube) (first n at : ℕ) : Type 0 where
  pub reached : follow (arrow_in heads e) (n - 1) first ≡ Some at
  pub not_before : (k : ℕ) → 0 < k → k < n → follow (arrow_in heads e) k first ≡ Some first → ⊥

module _ (heads : Heads) (e : Cube) (first n at : ℕ) (cube : IsCube e) (first_is : first_of e ≡ first) (some : 0 < n)
    (steps : AreSteps heads e first n at) where
  -- the last step is the arrow of the variable that was reached
  step_is : follow (arrow_in heads e) n first ≡ arrow_in heads e at
  step_is =
      let next : n ≡ suc (n - 1) = omega arith in
      ap (λ k. follow (arrow_in heads e) k first) next
      ∙ follow_next (arrow_in heads e) (n - 1) first at steps.reached

  -- after as many steps as it has pairs a cycle comes back to its first variable
  returns_is : IsCycle heads e → follow (arrow_in heads e) (length e) first ≡ Some first
  returns_is is = subst (λ v. follow (arrow_in heads e) (length e) v ≡ Some v) first_is is.returns

  -- where there is no step before the last, it is no cycle
  pub no_step : n < length e → arrow_in heads e at ≡ None → IsCycle heads e → ⊥
  no_step inside none is =
      let rest : n + (length e - n) ≡ length e = omega arith in
      none-some first (sym (follow_none (arrow_in heads e) n (length e - n) first (step_is ∙ none))
      ∙ ap (λ k. follow (arrow_in heads e) k first) rest ∙ returns_is is)

  -- nor where a step before the last comes back
  pub comes_early : n < length e → arrow_in heads e at ≡ Some first → IsCycle heads e → ⊥
  comes_early inside back is =
      (cycle_returns heads e cube is).not_before n some inside
      (subst (λ v. follow (arrow_in heads e) n v ≡ Some v) (sym first_is) (step_is ∙ back))

  -- a step more
  pub step_more : (head : ℕ) → arrow_in heads e at ≡ Some head → head ≢ first → AreSteps heads e first (n + 1) head
  step_more head leads other = record {
    reached = let same : n + 1 - 1 ≡ n = omega arith in
        ap (λ k. follow (arrow_in heads e) k first) same ∙ step_is ∙ leads;
    not_before = λ k positive below back. elim (cases_lt k n) [
      | inl before ↦ steps.not_before k positive before back
      | inr last ↦
          let same : k ≡ n = omega arith in
          other (same_Some head first (sym leads ∙ sym step_is
          ∙ ap (λ j. follow (arrow_in heads e) j first) (sym same) ∙ back))
    ];
  }

  -- it is a cycle where the last step comes back
  pub comes_back : length e ≡ n → arrow_in heads e at ≡ Some first → IsCycle heads e
  comes_back whole back = return_is_cycle heads e cube (record {
    returns = subst (λ v. follow (arrow_in heads e) (length e) v ≡ Some v) (sym first_is)
        (ap (λ k. follow (arrow_in heads e) k first) whole ∙ step_is ∙ back);
    not_before = λ k positive below home.
        steps.not_before k positive (omega (arith, whole, below))
        (subst (λ v. follow (arrow_in heads e) k v ≡ Some v) first_is home);
  })

  -- and only there
  pub must_come_back : length e ≡ n → IsCycle heads e → arrow_in heads e at ≡ Some first
  must_come_back whole is =
      sym step_is ∙ ap (λ k. follow (arrow_in heads e) k first) (sym whole) ∙ returns_is is
