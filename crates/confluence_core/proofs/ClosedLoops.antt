-- Variables along which the current arrows lead, and back to the first, are a loop, and their current slots a cycle that
-- occurs. So it is where the last arrow of a path leads back to a place of it, from there on.
use Rattle.std.proofs.Common.{◌≡◌, ◌≢◌, ℕ, suc, ◌+◌, ◌-◌, ◌<◌, ◌≤◌, true, List, length, get_or, drop, Some, sym, ap, subst, ◌∙◌, arith, Contains}
use Rattle.std.specs.List.{slice_range}
use Rattle.std.proofs.lemmas.List.{get_or-take, get_or-drop, get_or_default, length-take-le, length-drop}
use Rattle.pop_model.specs.Popping.{Cube, names}
use Rattle.pop_model.specs.Cycles.{IsCycle, demand}
use Rattle.pop_model.proofs.Following.{demand_named, named_demand, rising_demand, demand_contains}
use Rattle.pop_model.proofs.Loops.{loop_cube, Distinct, StandsIn, loop_only, loop_has}
use Rattle.pop_model.proofs.MadeCycles.{IsLoop, loop_is_cycle}
use Rattle.confluence_core.specs.CycleTables.{CycleTable, current_slot, current_head}
use Rattle.confluence_core.specs.Loops.{AreMembers, IsCubeOf}
use Rattle.confluence_core.specs.Walks.{Closes}
use Rattle.confluence_core.proofs.LoopCubes.{member_at, place_of}
use Rattle.confluence_core.proofs.PathsLemmas.{at_place, path_distinct}

-- the variables at the places from one to another
pub range_length : (path : List ℕ) (from end : ℕ) → end ≤ length path → length (slice_range path from end) ≡ end - from
range_length path from end within =
    let rest : length (drop from path) ≡ length path - from = length-drop from path in
    length-take-le (end - from) (drop from path) (omega (arith, rest))

pub range_at : (path : List ℕ) (from end k : ℕ) → k < end - from
    → get_or (slice_range path from end) k 0 ≡ get_or path (from + k) 0
range_at path from end k less =
    get_or-take (end - from) (drop from path) k 0 less ∙ get_or-drop from path k 0

-- the loop's variables, its cycle, and which variables it has
pub record IsClosed (t : CycleTable) (c path : List ℕ) (depth place : ℕ) (e : Cube) : Type 0 where
  pub members : AreMembers t (slice_range path place (depth + 1))
  pub short : length (slice_range path place (depth + 1)) ≤ depth + 1
  pub cube : IsCubeOf t c (slice_range path place (depth + 1)) e
  pub cycle : IsCycle t.heads e
  pub on : (k : ℕ) → place ≤ k → k ≤ depth → names e (get_or path k 0) ≡ true
  pub on_only : (v : ℕ) → names e v ≡ true → (k : ℕ) × (place ≤ k) × (k ≤ depth) × (get_or path k 0 ≡ v)

-- the cycle of the variables from a place on
abbrev pub loop_of : CycleTable → List ℕ → List ℕ → ℕ → ℕ → Cube
loop_of t c path depth place = loop_cube (current_slot t c) (at_place path) place (suc (depth - place))

-- the current arrows lead along the variables from a place on, none of which stands there twice, and back to the first
pub record ClosesLoop (t : CycleTable) (c path : List ℕ) (depth place : ℕ) : Type 0 where
  pub order : place ≤ depth
  pub below : (k : ℕ) → place ≤ k → k ≤ depth → get_or path k 0 < length t.heads
  pub distinct : (j k : ℕ) → place ≤ j → j < k → k ≤ depth → get_or path j 0 ≢ get_or path k 0
  pub leads : (k : ℕ) → place ≤ k → k < depth → current_head t c (get_or path k 0) ≡ Some (get_or path (suc k) 0)
  pub back : current_head t c (get_or path depth 0) ≡ Some (get_or path place 0)

-- so do they where a path closes
pub closes_loop : {t : CycleTable} {c marks path : List ℕ} {depth place : ℕ} → Closes t c marks path depth place
    → ClosesLoop t c path depth place
closes_loop is = record {
  order = is.order;
  below = λ k from within. is.trail.below k (omega arith);
  distinct = λ j k from less within. path_distinct is.trail j k (omega arith) less (omega arith);
  leads = λ k from less. is.trail.leads k (omega arith);
  back = is.back;
}

module _ (t : CycleTable) (c path : List ℕ) (depth place : ℕ) (within : depth < length path)
    (is : ClosesLoop t c path depth place) where
  loop_distinct : Distinct (at_place path) place (suc (depth - place))
  loop_distinct a b from less below = let order = is.order in is.distinct a b from less (omega arith)

  loop_leads : IsLoop t.heads (current_slot t c) (at_place path) place (depth - place)
  loop_leads =
      let order = is.order in
      let last : depth ≡ place + (depth - place) = omega arith in
      record {
        distinct = loop_distinct;
        leads = λ k from less. is.leads k from (omega arith);
        closes = subst (λ n. current_head t c (get_or path n 0) ≡ Some (get_or path place 0)) last is.back;
      }

  -- each of its variables has its current slot there
  loop_demands : (k : ℕ) → place ≤ k → k ≤ depth
      → demand (loop_of t c path depth place) (get_or path k 0) ≡ Some (current_slot t c (get_or path k 0))
  loop_demands k from below =
      loop_has (current_slot t c) (at_place path) place (suc (depth - place)) loop_distinct k from (omega arith)

  -- and it has no others
  loop_demanded : (v x : ℕ) → demand (loop_of t c path depth place) v ≡ Some x
      → StandsIn (current_slot t c) (at_place path) place (suc (depth - place)) v x
  loop_demanded = loop_only (current_slot t c) (at_place path) place (suc (depth - place)) loop_distinct

  -- such variables are a loop
  pub closed : IsClosed t c path depth place (loop_of t c path depth place)
  closed =
      let e = loop_of t c path depth place in
      let order = is.order in
      let members : List ℕ = slice_range path place (depth + 1) in
      let size : length members ≡ depth + 1 - place = range_length path place (depth + 1) (omega arith) in
      let at : (k : ℕ) → k < length members → get_or members k 0 ≡ get_or path (place + k) 0 =
      λ k less. range_at path place (depth + 1) k (omega (arith, size)) in
      let cycle : IsCycle t.heads e =
      loop_is_cycle t.heads (current_slot t c) (at_place path) place (depth - place) loop_leads in
      let member : (k : ℕ) → place ≤ k → k ≤ depth → Contains members (get_or path k 0) =
      λ k from below. let less : k - place < length members = omega (arith, size) in
      let sum : place + (k - place) ≡ k = omega arith in
      subst (Contains members) (at (k - place) less ∙ ap (at_place path) sum) (member_at members (k - place) less) in
      record {
        members = record {
          some = omega (arith, size);
          known = λ k d less. subst (λ u. u < length t.heads)
              (sym (get_or_default members k d 0 less ∙ at k less)) (is.below (place + k) (omega arith)
              (omega (arith, size)));
          differ = λ i j d less below same.
              is.distinct (place + i) (place + j) (omega arith) (omega arith) (omega (arith, size))
              (sym (get_or_default members i d 0 (omega arith) ∙ at i (omega arith)) ∙ same
              ∙ get_or_default members j d 0 below ∙ at j below);
        };
        short = omega (arith, size);
        cube = record {
          cube = cycle.cube;
          exact = λ v x. (
            λ has.
                let stands = loop_demanded v x (rising_demand e v x cycle.cube.rising has) in (
                  subst (Contains members) stands.is
                      (member stands.place stands.from (omega (arith, stands.below))),
                  sym stands.value,
                ),
            λ both.
                let there = place_of members v both.0 in
                let is_at = sym (at there.0 there.1) ∙ there.2 in
                let demanded : demand e v ≡ Some (current_slot t c v) =
                subst (λ u. demand e u ≡ Some (current_slot t c u)) is_at
                (loop_demands (place + there.0) (omega arith) (omega (arith, size, there.1))) in
                demand_contains e v x (demanded ∙ ap (λ y. Some y) both.1),
          );
        };
        cycle = cycle;
        on = λ k from below.
            demand_named e (get_or path k 0) (current_slot t c (get_or path k 0)) (loop_demands k from below);
        on_only = λ v there.
            let x = named_demand e v there in
            let stands = loop_demanded v x.0 x.1 in
            (stands.place, stands.from, omega (arith, stands.below), stands.is);
      }
