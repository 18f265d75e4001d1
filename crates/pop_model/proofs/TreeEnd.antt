-- A cycle that occurs is closed under the current arrows, so from none of its variables they come to the root. Where
-- they don't come to the root from a variable, they pass one twice, and the loop between is a cycle that occurs.
use Rattle.std.proofs.Common.{inl, inr, ◌≡◌, ◌≢◌, ◌⊎◌, ◌↔◌, ℕ, zero, suc, ◌+◌, ◌-◌, ◌<◌, ◌≤◌, true, List, [], length, get_or, Option, Some, None, refl, sym, ap, subst, ◌∙◌, arith}
use Rattle.std.specs.Option.{unwrap_or}
use Rattle.std.proofs.lemmas.Bool.{cases_eq, cases_lt}
use Rattle.std.proofs.lemmas.Option.{none-some, same_Some}
use Rattle.std.proofs.lemmas.List.{get_or_past}
use Rattle.std.proofs.lemmas.List.Elements.{All-contains}
use Rattle.pop_model.specs.Stacks.{StackTable, value_at}
use Rattle.pop_model.specs.Popping.{Cube, Occurs, names, cursor, current}
use Rattle.pop_model.specs.Families.{Event}
use Rattle.pop_model.specs.Instances.{Instance}
use Rattle.pop_model.specs.Cycles.{IsCycle, AreArrows, ReachesRoot, head_of, follow, demand, arrow_in, arrow_at, first_of}
use Rattle.pop_model.specs.Families.Family.{Cycles}
use Rattle.pop_model.specs.Runs.{IsFinished}
use Rattle.pop_model.proofs.Following.{cases_Option, follow_before, follow_next, follow_last, named_demand, demand_contains}
use Rattle.pop_model.proofs.CycleFamily.{Heads, arrow_demands, first_named, stays_in, leads_on_cycle}
use Rattle.pop_model.proofs.Loops.{loop_cube, Distinct, path_short}
use Rattle.pop_model.proofs.MadeCycles.{IsLoop, loop_is_cycle, loop_occurs}

-- what occurs demands the current values
pub occurs_demand : (s : StackTable) (c : List ℕ) (e : Cube) (v x : ℕ) → Occurs s c e → demand e v ≡ Some x
    → value_at s v (cursor c v) ≡ x
occurs_demand s c e v x occurs h =
    All-contains (λ (p : ℕ × ℕ). value_at s p.0 (cursor c p.0) ≡ p.1) e (v, x) occurs (demand_contains e v x h)

-- so its arrows are the current ones
pub occurs_arrow : (heads : Heads) (s : StackTable) (c : List ℕ) (e : Cube) (v : ℕ) → Occurs s c e → names e v ≡ true
    → arrow_in heads e v ≡ arrow_at heads s c v
occurs_arrow heads s c e v occurs at =
    let x = named_demand e v at in
    arrow_demands heads e v x.0 x.1 ∙ ap (head_of heads v) (sym (occurs_demand s c e v x.0 occurs x.1))

-- the current arrow of a variable of a cycle that occurs
pub record StaysAt (heads : Heads) (s : StackTable) (c : List ℕ) (e : Cube) (v : ℕ) : Type 0 where
  pub next : ℕ
  pub leads : arrow_at heads s c v ≡ Some next
  pub named : names e next ≡ true

-- where a cycle occurs, the current arrow of each of its variables leads to one of them
pub stays_at : (heads : Heads) (s : StackTable) (c : List ℕ) (e : Cube) (v : ℕ) → IsCycle heads e → Occurs s c e
    → names e v ≡ true → StaysAt heads s c e v
stays_at heads s c e v is occurs at =
    let on = stays_in heads e is v at in
    record { next = on.next; leads = sym (occurs_arrow heads s c e v occurs at) ∙ on.leads; named = on.named }

-- the current arrows stay in the cycle
pub follows_in : (heads : Heads) (s : StackTable) (c : List ℕ) (e : Cube) (v k w : ℕ) → IsCycle heads e → Occurs s c e
    → names e v ≡ true → follow (arrow_at heads s c) k v ≡ Some w → names e w ≡ true
follows_in heads s c e v zero w is occurs at h = subst (λ u. names e u ≡ true) (same_Some v w h) at
follows_in heads s c e v (suc k) w is occurs at h =
    let last = follow_last (arrow_at heads s c) k v w h in
    let on = stays_at heads s c e last.0 is occurs (follows_in heads s c e v k last.0 is occurs at last.1) in
    subst (λ u. names e u ≡ true) (same_Some on.next w (sym on.leads ∙ last.2)) on.named

-- and never come to the root
pub never_root : (heads : Heads) (s : StackTable) (c : List ℕ) (e : Cube) (v k : ℕ) → IsCycle heads e → Occurs s c e
    → names e v ≡ true → (w : ℕ) × (follow (arrow_at heads s c) k v ≡ Some w)
never_root heads s c e v zero is occurs at = (v, refl)
never_root heads s c e v (suc k) is occurs at =
    let before = never_root heads s c e v k is occurs at in
    let on = stays_at heads s c e before.0 is occurs (follows_in heads s c e v k before.0 is occurs at before.1) in
    (on.next, follow_next (arrow_at heads s c) k v before.0 before.1 ∙ on.leads)

-- where a cycle occurs, the steps that it demands are those along the current arrows
in_as_at : (heads : Heads) (s : StackTable) (c : List ℕ) (e : Cube) (v k w : ℕ) → IsCycle heads e → Occurs s c e
    → names e v ≡ true → follow (arrow_in heads e) k v ≡ Some w → follow (arrow_at heads s c) k v ≡ Some w
in_as_at heads s c e v zero w is occurs at h = h
in_as_at heads s c e v (suc k) w is occurs at h =
    let last = follow_last (arrow_in heads e) k v w h in
    let same = in_as_at heads s c e v k last.0 is occurs at last.1 in
    let named = follows_in heads s c e v k last.0 is occurs at same in
    follow_next (arrow_at heads s c) k v last.0 same ∙ sym (occurs_arrow heads s c e last.0 occurs named) ∙ last.2

-- they lead from each of its variables to each
pub leads_at : (heads : Heads) (s : StackTable) (c : List ℕ) (e : Cube) (v w : ℕ) → IsCycle heads e → Occurs s c e
    → names e v ≡ true → names e w ≡ true → (k : ℕ) × (follow (arrow_at heads s c) k v ≡ Some w)
leads_at heads s c e v w is occurs at_v at_w = let walk =
    leads_on_cycle heads e is v w at_v at_w in (walk.0, in_as_at heads s c e v walk.0 w is occurs at_v walk.1)

-- only a variable that has slots has one that leads to a variable
pub head_within : (heads : Heads) (v x w : ℕ) → head_of heads v x ≡ Some w → v < length heads
head_within heads v x w h = elim (cases_lt v (length heads)) [
  | inl below ↦ below
  | inr past ↦ absurd (none-some w (ap (λ (row : List (Option ℕ)). get_or row x None) (sym (get_or_past heads v [] past)) ∙ h))
]

-- two places of a sequence with one variable, the first such, or none
pub record Repeats (at : ℕ → ℕ) (m : ℕ) : Type 0 where
  pub first : ℕ
  pub again : ℕ
  pub order : first < again
  pub below : again < m
  pub same : at first ≡ at again
  pub before : Distinct at 0 again

-- a variable stands at one of the first places of a sequence, or at none
pub find : (at : ℕ → ℕ) (x m : ℕ) → ((i : ℕ) × (i < m) × (at i ≡ x)) ⊎ ((i : ℕ) → i < m → at i ≢ x)
find at x zero = inr (λ i h. absurd (omega (arith, h)))
find at x (suc m) = elim (find at x m) [
  | inl (i, h, is) ↦ inl (i, omega (arith, h), is)
  | inr none ↦ elim (cases_eq (at m) x) [
    | inl here ↦ inl (m, omega arith, here)
    | inr differ ↦ inr (λ i h. elim (cases_eq i m) [ inl e ↦ subst (λ j. at j ≢ x) (sym e) differ | inr ne ↦ none i (omega arith) ])
  ]
]

-- of the first places two have one variable, or no two have
pub repeats_or_not : (at : ℕ → ℕ) (m : ℕ) → Repeats at m ⊎ Distinct at 0 m
repeats_or_not at zero = inr (λ a b from lt below. absurd (omega arith))
repeats_or_not at (suc m) = elim (repeats_or_not at m) [
  | inl r ↦ inl (record { first = r.first; again = r.again; order = r.order; below = omega (arith, r.below); same = r.same; before = r.before })
  | inr d ↦ elim (find at (at m) m) [
    | inl (i, h, is) ↦ inl (record { first = i; again = m; order = h; below = omega arith; same = is; before = d })
    | inr none ↦ inr (λ a b from lt below. elim (cases_eq b m) [ inl e ↦ subst (λ j. at a ≢ at j) (sym e) (none a (omega arith)) | inr ne ↦ d a b from lt (omega arith) ])
  ]
]

-- the variables that the arrows pass
pub passed : (ℕ → Option ℕ) → ℕ → ℕ → ℕ
passed step v k = unwrap_or (follow step k v) 0

-- it is where they lead, unless they came to the root
pub passed_is : (step : ℕ → Option ℕ) (v k w : ℕ) → follow step k v ≡ Some w → follow step k v ≡ Some (passed step v k)
unfolding passed
passed_is step v k w h = h ∙ ap (λ (o : Option ℕ). Some (unwrap_or o 0)) (sym h)

-- the instance of the cycles of these heads
abbrev pub tree : StackTable → Heads → Instance
tree s heads = record { stacks = s; family = Cycles heads }

-- the event of a cycle
event_of_cube : Cube → Event
event_of_cube e = record { unit = first_of e; cube = e }

-- where no cycle occurs, a walk of as many steps as there are variables comes to the root
pub no_long_walk : (s : StackTable) (heads : Heads) → AreArrows heads → (c : List ℕ) → IsFinished (tree s heads) c
    → (v w : ℕ) → v < length heads → follow (arrow_at heads s c) (length heads) v ≡ Some w → ⊥
unfolding event_of_cube
no_long_walk s heads are c finished v w below h =
    let step = arrow_at heads s c in
    let n = length heads in
    let at = passed step v in
    let along : (k : ℕ) → k ≤ n
    → follow step k v ≡ Some (at k) = λ k le. let there =
    follow_before step k n v w le h in passed_is step v k there.0 there.1 in
    let leads : (k : ℕ) → suc k ≤ n
    → step (at k) ≡ Some (at (suc k)) = λ k le. sym (follow_next step k v (at k) (along k (omega arith)))
    ∙ along (suc k) le in
    let within : (k : ℕ) → k ≤ n → at k < n = λ k le. elim (cases_eq k 0) [
      | inl none ↦ let start : at 0 ≡ v =
          same_Some (at 0) v (sym (along 0 (omega arith))) in subst (λ j. at j < n) (sym none) (omega (arith, start))
      | inr some ↦ let back : suc (k - 1) ≡ k =
          omega arith in subst (λ j. at j < n) back (are.below (at (k - 1)) (value_at s (at (k - 1)) (cursor c (at (k - 1)))) (at (suc (k - 1))) (leads (k - 1) (omega arith)))
    ] in
    elim (repeats_or_not at (suc n)) [
      | inr d ↦ let short =
          path_short at 0 (suc n) n d (λ k from lt. within k (omega arith)) in absurd (omega (arith, short))
      | inl r ↦
          let i = r.first in
          let m = r.again - suc i in
          let size : i + suc m ≡ r.again = omega (arith, r.order) in
          let loop : IsLoop heads (current s c) at i m = record {
            distinct = λ a b from lt low. r.before a b (omega arith) lt (omega arith);
            leads = λ k from lt. leads k (omega (arith, r.below));
            closes = let last : suc (i + m) ≡ r.again = omega arith in leads (i + m) (omega (arith, r.below))
                ∙ ap (λ j. Some (at j)) last ∙ ap (λ u. Some u) (sym r.same);
          } in
          finished (event_of_cube (loop_cube (current s c) at i (suc m))) (loop_is_cycle heads (current s c) at i m loop, refl) (loop_occurs s c at i (suc m) loop.distinct)
    ]

-- No cycle occurs exactly where from each variable the arrows reach the root.
pub tree_end : (s : StackTable) (heads : Heads) → AreArrows heads → (c : List ℕ)
    → IsFinished (tree s heads) c ↔ ((v : ℕ) → v < length heads → ReachesRoot (arrow_at heads s c) v)
tree_end s heads are c = (
  λ finished v below. elim (cases_Option (follow (arrow_at heads s c) (length heads) v)) [
    | inl none ↦ (length heads, none)
    | inr on ↦ absurd (no_long_walk s heads are c finished v on.0 below on.1)
  ],
  λ reach e is occurs.
      let a = first_of e.cube in
      let at = first_named e.cube is.0.cube in
      let on = stays_at heads s c e.cube a is.0 occurs at in
      let root = reach a (head_within heads a (value_at s a (cursor c a)) on.next on.leads) in
      let some = never_root heads s c e.cube a root.0 is.0 occurs at in
      none-some some.0 (sym root.1 ∙ some.1),
)
