-- A loop of current arrows is a cycle that occurs; and no cycle occurs exactly where the arrows lead each variable
-- to the root: a walk of more steps than there are variables would pass one twice.
use Rattle.std.proofs.Common.{inl, inr, ◌≡◌, ℕ, zero, suc, ◌+◌, ◌-◌, ◌<◌, ◌≤◌, true, List, length, get_or, Option, Some, refl, sym, ap, subst, ◌∙◌, arith}
use Rattle.std.proofs.lemmas.Bool.{cases_lt}
use Rattle.std.proofs.lemmas.List.Elements.{Contains-get_or}
use Rattle.pop_model.specs.Stacks.{StackTable}
use Rattle.pop_model.specs.Popping.{Cube, IsCube, Occurs, names, current}
use Rattle.pop_model.specs.Cycles.{IsCycle, head_of, follow, demand, arrow_in, first_of}
use Rattle.pop_model.proofs.Following.{follow_more, follow_next, named_demand, rising_demand}
use Rattle.pop_model.proofs.CycleFamily.{Heads, arrow_demands, first_named}
use Rattle.pop_model.proofs.Loops.{loop_cube, Distinct, length-loop, loop_only, loop_has, loop_ascends, ascends_rises}

-- steps along a closed sequence, begun at a later place
pub record ClosedWalk (step : ℕ → Option ℕ) (n : ℕ) (at : ℕ → ℕ) : Type 0 where
  pub along : (j : ℕ) → j < n → follow step j (at 0) ≡ Some (at j)
  pub back : follow step n (at 0) ≡ Some (at 0)

-- from each place of a closed walk it comes back there
pub closed_walk_back : (step : ℕ → Option ℕ) (n : ℕ) (at : ℕ → ℕ) → ClosedWalk step n at → (j : ℕ) → j < n
    → follow step n (at j) ≡ Some (at j)
closed_walk_back step n at r j below =
    let home : follow step (n - j) (at j) ≡ Some (at 0) = let sum : j + (n - j) ≡ n =
    omega arith in sym (follow_more step j (n - j) (at 0) (at j) (r.along j below))
    ∙ ap (λ k. follow step k (at 0)) sum ∙ r.back in
    let whole : n ≡ (n - j) + j = omega arith in
    ap (λ k. follow step k (at j)) whole ∙ follow_more step (n - j) j (at j) (at 0) home ∙ r.along j below

-- and meets each other place
pub closed_walk_meets : (step : ℕ → Option ℕ) (n : ℕ) (at : ℕ → ℕ) → ClosedWalk step n at → (j i : ℕ) → j < n → i < n
    → (k : ℕ) × (k < n) × (follow step k (at j) ≡ Some (at i))
closed_walk_meets step n at r j i below_j below_i = elim (cases_lt i j) [
  | inl less ↦
      let home : follow step (n - j) (at j) ≡ Some (at 0) = let sum : j + (n - j) ≡ n =
      omega arith in sym (follow_more step j (n - j) (at 0) (at j) (r.along j below_j))
      ∙ ap (λ k. follow step k (at 0)) sum ∙ r.back in
      ((n - j) + i, omega arith, follow_more step (n - j) i (at j) (at 0) home ∙ r.along i below_i)
  | inr more ↦
      let sum : j + (i - j) ≡ i = omega arith in
      (i - j, omega arith, sym (follow_more step j (i - j) (at 0) (at j) (r.along j below_j)) ∙ ap (λ k. follow step k (at 0)) sum ∙ r.along i below_i)
]

-- the variables at m + 1 places from i on lead one to the next, and the last to the first
pub record IsLoop (heads : Heads) (slot at : ℕ → ℕ) (i m : ℕ) : Type 0 where
  pub distinct : Distinct at i (suc m)
  pub leads : (k : ℕ) → i ≤ k → k < i + m → head_of heads (at k) (slot (at k)) ≡ Some (at (suc k))
  pub closes : head_of heads (at (i + m)) (slot (at (i + m))) ≡ Some (at i)

-- the cube of a loop has its arrows
loop_step : (heads : Heads) (slot at : ℕ → ℕ) (i m : ℕ) → IsLoop heads slot at i m → (k : ℕ) → i ≤ k → k < i + suc m
    → arrow_in heads (loop_cube slot at i (suc m)) (at k) ≡ head_of heads (at k) (slot (at k))
loop_step heads slot at i m is k from below =
    arrow_demands heads (loop_cube slot at i (suc m)) (at k) (slot (at k)) (loop_has slot at i (suc m) is.distinct k from below)

-- they lead along it
loop_along : (heads : Heads) (slot at : ℕ → ℕ) (i m : ℕ) → IsLoop heads slot at i m → (j : ℕ) → j < suc m
    → follow (arrow_in heads (loop_cube slot at i (suc m))) j (at (i + 0)) ≡ Some (at (i + j))
loop_along heads slot at i m is zero below = refl
loop_along heads slot at i m is (suc j) below =
    let step = arrow_in heads (loop_cube slot at i (suc m)) in
    let next : suc (i + j) ≡ i + suc j = omega arith in
    follow_next step j (at (i + 0)) (at (i + j)) (loop_along heads slot at i m is j (omega arith))
    ∙ loop_step heads slot at i m is (i + j) (omega arith) (omega arith) ∙ is.leads (i + j) (omega arith) (omega arith)
    ∙ ap (λ n. Some (at n)) next

-- and back to its first place
loop_closed : (heads : Heads) (slot at : ℕ → ℕ) (i m : ℕ) → IsLoop heads slot at i m
    → ClosedWalk (arrow_in heads (loop_cube slot at i (suc m))) (suc m) (λ j. at (i + j))
loop_closed heads slot at i m is =
    let step = arrow_in heads (loop_cube slot at i (suc m)) in
    let none : i ≡ i + 0 = omega arith in
    record {
      along = loop_along heads slot at i m is;
      back = follow_next step m (at (i + 0)) (at (i + m)) (loop_along heads slot at i m is m (omega arith))
          ∙ loop_step heads slot at i m is (i + m) (omega arith) (omega arith) ∙ is.closes ∙ ap (λ n. Some (at n)) none;
    }

-- a cube is a cycle where its arrows walk round just its variables
cycle_of_walk : (heads : Heads) (e : Cube) (n : ℕ) (at : ℕ → ℕ) → IsCube e → length e ≡ n
    → ClosedWalk (arrow_in heads e) n at → (j : ℕ) → j < n → at j ≡ first_of e
    → ((v : ℕ) → names e v ≡ true → (k : ℕ) × (k < n) × (at k ≡ v)) → IsCycle heads e
cycle_of_walk heads e n at cube size walk j below here has = record {
  cube = cube;
  returns = ap (λ k. follow (arrow_in heads e) k (first_of e)) size
      ∙ subst (λ v. follow (arrow_in heads e) n v ≡ Some v) here
      (closed_walk_back (arrow_in heads e) n at walk j below);
  meets = λ v at_v.
      let other = has v at_v in
      let met = closed_walk_meets (arrow_in heads e) n at walk j other.0 below other.1 in (
        met.0,
        omega (arith, met.1, size),
        ap (follow (arrow_in heads e) met.0) (sym here) ∙ met.2 ∙ ap (λ w. Some w) other.2,
      );
}

-- the pairs of a loop are a cycle
pub loop_is_cycle : (heads : Heads) (slot at : ℕ → ℕ) (i m : ℕ) → IsLoop heads slot at i m
    → IsCycle heads (loop_cube slot at i (suc m))
loop_is_cycle heads slot at i m is =
    let e = loop_cube slot at i (suc m) in
    let size : length e ≡ suc m = length-loop slot at i (suc m) in
    let cube : IsCube e =
    record { some = omega (arith, size); rising = ascends_rises e (loop_ascends slot at i (suc m) is.distinct) } in
    let first = named_demand e (first_of e) (first_named e cube) in
    let stands = loop_only slot at i (suc m) is.distinct (first_of e) first.0 first.1 in
    let place : i + (stands.place - i) ≡ stands.place = omega (arith, stands.from) in
    cycle_of_walk heads e (suc m) (λ j. at (i + j)) cube size (loop_closed heads slot at i m is) (stands.place - i)
    (omega (arith, stands.below)) (ap at place ∙ stands.is)
    (λ v at_v.
    let x = named_demand e v at_v in
    let other = loop_only slot at i (suc m) is.distinct v x.0 x.1 in
    let sum : i + (other.place - i) ≡ other.place = omega (arith, other.from) in
    (other.place - i, omega (arith, other.below), ap at sum ∙ other.is))

-- a loop of current slots occurs
pub loop_occurs : (s : StackTable) (c : List ℕ) (at : ℕ → ℕ) (i n : ℕ) → Distinct at i n
    → Occurs s c (loop_cube (current s c) at i n)
loop_occurs s c at i n d k p below =
    let e = loop_cube (current s c) at i n in
    let pair : ℕ × ℕ = get_or e k p in
    let demands : demand e pair.0 ≡ Some pair.1 =
    rising_demand e pair.0 pair.1 (ascends_rises e (loop_ascends (current s c) at i n d)) (Contains-get_or e k p below) in
    sym (loop_only (current s c) at i n d pair.0 pair.1 demands).value
