-- Whether a cycle is poppable is found by the arrows of the variables that have a next entry: where these lead on for
-- as many steps as there are variables, they close a cycle, and where they never do, there is none.
use Rattle.std.proofs.Common.{inl, inr, ◌≡◌, ◌⊎◌, ℕ, zero, suc, ◌+◌, ◌-◌, ◌<◌, ◌≤◌, Bool, true, cond, ltb, List, length, get_or, Option, Some, None, refl, sym, ap, subst, ◌∙◌, arith}
use Rattle.std.proofs.lemmas.Bool.{cases_eq, cases_Bool, ltb-true, lt-ltb}
use Rattle.std.proofs.lemmas.Option.{none-some, same_Some}
use Rattle.std.proofs.lemmas.List.Elements.{All-contains, Contains-get_or}
use Rattle.pop_model.specs.Stacks.{StackTable, value_at, height_of}
use Rattle.pop_model.specs.Popping.{Cube, IsPoppable, names, cursor, current}
use Rattle.pop_model.specs.Cycles.{IsCycle, AreArrows, follow, arrow_at, first_of}
use Rattle.pop_model.specs.Families.Family.{Cycles}
use Rattle.pop_model.proofs.Diamond.{named}
use Rattle.pop_model.proofs.Following.{cases_Option, follow_before, follow_next, contains_demand}
use Rattle.pop_model.proofs.CycleFamily.{Heads, first_named}
use Rattle.pop_model.proofs.Loops.{loop_cube, loop_only, path_short}
use Rattle.pop_model.proofs.MadeCycles.{IsLoop, loop_is_cycle, loop_occurs}
use Rattle.pop_model.proofs.TreeEnd.{repeats_or_not, passed, passed_is, head_within, stays_at}
use Rattle.pop_samples.proofs.Ending.{Found}

-- the arrow of a variable that has a next entry
abbrev free : Heads → StackTable → List ℕ → ℕ → Option ℕ
free heads s c v = cond (ltb (cursor c v + 1) (height_of s v)) (arrow_at heads s c v) None

-- the arrow leads there, and there is a next entry
record Leads (heads : Heads) (s : StackTable) (c : List ℕ) (v w : ℕ) : Type 0 where
  arrow : arrow_at heads s c v ≡ Some w
  next : cursor c v + 1 < height_of s v

-- so the arrow of a variable leads where its arrow leads, if there is a next entry
leads_from : (heads : Heads) (s : StackTable) (c : List ℕ) (v w : ℕ) → free heads s c v ≡ Some w → Leads heads s c v w
leads_from heads s c v w h = elim (cases_Bool (ltb (cursor c v + 1) (height_of s v))) [
  | inl is ↦ record {
    arrow = sym (ap (λ (b : Bool). cond b (arrow_at heads s c v) None) is) ∙ h;
    next = ltb-true (cursor c v + 1) (height_of s v) is;
  }
  | inr not ↦ absurd (none-some w (sym (ap (λ (b : Bool). cond b (arrow_at heads s c v) None) not) ∙ h))
]

-- and where it leads on with a next entry
leads_to : (heads : Heads) (s : StackTable) (c : List ℕ) (v w : ℕ) → Leads heads s c v w → free heads s c v ≡ Some w
leads_to heads s c v w h =
    ap (λ (b : Bool). cond b (arrow_at heads s c v) None) (lt-ltb (cursor c v + 1) (height_of s v) h.next) ∙ h.arrow

-- a cycle that is poppable at these cursors
record PoppableCycle (heads : Heads) (s : StackTable) (c : List ℕ) : Type 0 where
  cube : Cube
  cycle : IsCycle heads cube
  poppable : IsPoppable s c cube

-- a walk that goes on for as many steps as there are variables meets a poppable cycle
long_walk : (s : StackTable) (heads : Heads) → AreArrows heads → (c : List ℕ)
    → (v w : ℕ) → v < length heads → follow (free heads s c) (length heads) v ≡ Some w → PoppableCycle heads s c
long_walk s heads are c v w below h =
    let step = free heads s c in
    let n = length heads in
    let at = passed step v in
    let along : (k : ℕ) → k ≤ n
    → follow step k v ≡ Some (at k) = λ k le. let there =
    follow_before step k n v w le h in passed_is step v k there.0 there.1 in
    let leads : (k : ℕ) → suc k ≤ n → Leads heads s c (at k) (at (suc k)) = λ k le.
    leads_from heads s c (at k) (at (suc k))
    (sym (follow_next step k v (at k) (along k (omega arith))) ∙ along (suc k) le) in
    let within : (k : ℕ) → k ≤ n → at k < n = λ k le. elim (cases_eq k 0) [
      | inl none ↦ let start : at 0 ≡ v =
          same_Some (at 0) v (sym (along 0 (omega arith))) in subst (λ j. at j < n) (sym none) (omega (arith, start))
      | inr some ↦ let back : suc (k - 1) ≡ k =
          omega arith in subst (λ j. at j < n) back
          (are.below (at (k - 1)) (value_at s (at (k - 1)) (cursor c (at (k - 1)))) (at (suc (k - 1)))
          (leads (k - 1) (omega arith)).arrow)
    ] in
    elim (repeats_or_not at (suc n)) [
      | inr d ↦ let short =
          path_short at 0 (suc n) n d (λ k from lt. within k (omega arith)) in absurd (omega (arith, short))
      | inl r ↦
          let i = r.first in
          let m = r.again - suc i in
          let size : i + suc m ≡ r.again = omega (arith, r.order) in
          let loop : IsLoop heads (current s c) at i m = record {
            distinct = λ a b from lt low. r.before a b (omega arith) lt (omega arith);
            leads = λ k from lt. (leads k (omega (arith, r.below))).arrow;
            closes = let last : suc (i + m) ≡ r.again = omega arith in (leads (i + m) (omega (arith, r.below))).arrow
                ∙ ap (λ j. Some (at j)) last ∙ ap (λ u. Some u) (sym r.same);
          } in
          let e : Cube = loop_cube (current s c) at i (suc m) in
          record {
            cube = e;
            cycle = loop_is_cycle heads (current s c) at i m loop;
            poppable = record {
              occurs = loop_occurs s c at i (suc m) loop.distinct;
              next = λ k d low.
                  let p : ℕ × ℕ = get_or e k d in
                  let x = contains_demand e p.0 p.1 (Contains-get_or e k d low) in
                  let stands = loop_only (current s c) at i (suc m) loop.distinct p.0 x.0 x.1 in
                  subst (λ (u : ℕ). cursor c u + 1 < height_of s u) {x = at stands.place} stands.is
                  ((leads stands.place (let b = stands.below in omega (arith, b, size, r.below))).next);
            };
          }
    ]

-- the arrows of a poppable cycle lead on
leads_on : (s : StackTable) (heads : Heads) (c : List ℕ) (e : Cube) → IsCycle heads e → IsPoppable s c e → (k : ℕ)
    → (w : ℕ) × (follow (free heads s c) k (first_of e) ≡ Some w) × (names e w ≡ true)
leads_on s heads c e is pop zero = (first_of e, refl, first_named e is.cube)
leads_on s heads c e is pop (suc k) =
    let old = leads_on s heads c e is pop k in
    let on = stays_at heads s c e old.0 is pop.occurs old.2 in
    let x = named e old.0 old.2 in
    let next : cursor c old.0 + 1 < height_of s old.0 =
    All-contains (λ (p : ℕ × ℕ). cursor c p.0 + 1 < height_of s p.0) e (old.0, x.0) pop.next x.1 in (
      on.next,
      follow_next (free heads s c) k (first_of e) old.0 old.1
          ∙ leads_to heads s c old.0 on.next (record { arrow = on.leads; next = next }),
      on.named,
    )

-- some variable below n from which the arrows lead on, or none
walked : (step : ℕ → Option ℕ) (m n : ℕ)
    → ((v : ℕ) × (w : ℕ) × (v < n) × (follow step m v ≡ Some w)) ⊎ ((v w : ℕ) → v < n → follow step m v ≡ Some w → ⊥)
walked step m zero = inr (λ v w less h. absurd (omega (arith, less)))
walked step m (suc n) = elim (walked step m n) [
  | inl old ↦ inl (old.0, old.1, (let less = old.2 in omega (arith, less)), old.3)
  | inr none ↦ elim (cases_Option (follow step m n)) [
    | inl stops ↦ inr (λ v w less h. elim (cases_eq v n) [
      | inl is ↦ none-some w (sym stops ∙ ap (follow step m) (sym is) ∙ h)
      | inr other ↦ none v w (omega (arith, less, other)) h
    ])
    | inr on ↦ inl (n, on.0, omega arith, on.1)
  ]
]

-- so it is found whether a cycle is poppable
pub found_cycles : (s : StackTable) (heads : Heads) → AreArrows heads → (c : List ℕ)
    → Found (record { stacks = s; family = Cycles heads }) c
found_cycles s heads are c = elim (walked (free heads s c) (length heads) (length heads)) [
  | inl on ↦
      let cycle = long_walk s heads are c on.0 on.1 on.2 on.3 in
      inl (record { unit = first_of cycle.cube; cube = cycle.cube }, (cycle.cycle, refl), cycle.poppable)
  | inr none ↦ inr (λ e is pop.
      let one = leads_on s heads c e.cube is.0 pop 1 in
      let a : ℕ = first_of e.cube in
      let lead = leads_from heads s c a one.0 one.1 in
      let all = leads_on s heads c e.cube is.0 pop (length heads) in
      none a all.0 (head_within heads a (value_at s a (cursor c a)) one.0 lead.arrow) all.1)
]
