-- A closed walk along the current arrows: a cycle that occurs is found by following the arrows from one of its
-- variables. They come to no root, and return after as many steps as the cycle has variables, which are at most all; then
-- the variables that they passed are those of the cycle.
use Rattle.std.proofs.Common.{inl, inr, ◌≡◌, ◌≢◌, ℕ, zero, suc, ◌+◌, ◌-◌, ◌<◌, ◌≤◌, true, List, [], ◌∷◌, ◌++◌, length, get_or, Some, None, refl, sym, ap, subst, ◌∙◌, arith}
use Rattle.std.specs.List.{slice_range}
use Rattle.std.proofs.lemmas.Bool.{cases_eq}
use Rattle.std.proofs.lemmas.Option.{none-some, same_Some}
use Rattle.std.proofs.lemmas.List.{length_push, get_or_push, get_or_append_left, take_all, length-map}
use Rattle.std.proofs.lemmas.List.Elements.{All-map}
use Rattle.std.proofs.lemmas.Map.Keys.{sorted_from_strictly_increasing}
use Rattle.std.proofs.lemmas.Map.Views.{length-le_from_below}
use Rattle.pop_model.specs.Popping.{Cube, Occurs, names, variables}
use Rattle.pop_model.specs.Cycles.{IsCycle, follow, arrow_in, first_of}
use Rattle.pop_model.proofs.Following.{follow_more, follow_next, follow_last}
use Rattle.pop_model.proofs.CycleFamily.{Heads, first_named}
use Rattle.pop_model.proofs.TreeEnd.{stays_at, follows_in, occurs_arrow}
use Rattle.confluence_core.specs.CycleTables.{CycleTable, current_head}
use Rattle.confluence_core.specs.Loops.{AreMembers, IsCubeOf}
use Rattle.confluence_core.specs.ArrowWalks.{IsOnCycle, IsWay, IsCycleThrough, HasNoCycle, IsClosedWalk}
use Rattle.confluence_core.proofs.CycleVariables.{cycle_names_below, first_least}
use Rattle.confluence_core.proofs.ClosedLoops.{closed, loop_of}
use Rattle.confluence_core.proofs.LoopCubes.{cube_occurs}

-- a cycle that occurs leads as the current arrows do
pub follows_as : (t : CycleTable) (c : List ℕ) (e : Cube) (v k w : ℕ) → IsCycle t.heads e → Occurs t.stacks c e
    → names e v ≡ true → follow (arrow_in t.heads e) k v ≡ Some w → follow (current_head t c) k v ≡ Some w
follows_as t c e v zero w cycle occurs at leads = leads
follows_as t c e v (suc k) w cycle occurs at leads =
    let last = follow_last (arrow_in t.heads e) k v w leads in
    let same = follows_as t c e v k last.0 cycle occurs at last.1 in
    let there = follows_in t.heads t.stacks c e v k last.0 cycle occurs at same in
    follow_next (current_head t c) k v last.0 same ∙ sym (occurs_arrow t.heads t.stacks c e last.0 occurs there)
    ∙ last.2

-- a cycle has at most as many variables as there are
pub cycle_short : (heads : Heads) (e : Cube) → IsCycle heads e → length e ≤ length heads
cycle_short heads e cycle =
    let size = length-map e (λ (p : ℕ × ℕ). p.0) in
    let short = length-le_from_below (length heads) (variables e)
    (sorted_from_strictly_increasing (variables e) cycle.cube.rising)
    (All-map (λ v. v < length heads) (λ (p : ℕ × ℕ). p.0) e (cycle_names_below heads e cycle)) in
    omega (arith, short, size)

-- from a variable of a cycle its arrows come back after as many steps as it has variables
pub comes_home : (heads : Heads) (e : Cube) (v : ℕ) → IsCycle heads e → names e v ≡ true
    → follow (arrow_in heads e) (length e) v ≡ Some v
comes_home heads e v cycle at =
    let step = arrow_in heads e in
    let a = first_of e in
    let met = cycle.meets v at in
    let swap : met.0 + length e ≡ length e + met.0 = omega arith in
    sym (follow_more step met.0 (length e) a v met.2) ∙ ap (λ k. follow step k a) swap
    ∙ follow_more step (length e) met.0 a a cycle.returns ∙ met.2

-- what holds of each place of a list, and of one more at its end, holds of each place of both
push_each : (P : ℕ → ℕ → Type 0) (xs : List ℕ) (x : ℕ) → ((k : ℕ) → k < length xs → P k (get_or xs k 0))
    → P (length xs) x → (k : ℕ) → k < length (xs ++ x ∷ []) → P k (get_or (xs ++ x ∷ []) k 0)
push_each P xs x each last k less = elim (cases_eq k (length xs)) [
  | inl end ↦
      subst (λ n. P n (get_or (xs ++ x ∷ []) n 0)) (sym end)
      (subst (P (length xs)) (sym (get_or_push xs x 0 (length xs) refl)) last)
  | inr more ↦
      let far : k < length xs = omega (arith, less, length_push xs x, more) in
      subst (P k) (sym (get_or_append_left xs (x ∷ []) 0 k far)) (each k far)
]

-- where steps lead along a way
way_follows : {t : CycleTable} {c : List ℕ} {low start : ℕ} {way : List ℕ} → IsWay t c low start way
    → (k : ℕ) → k < length way → follow (current_head t c) k start ≡ Some (get_or way k 0)
way_follows is zero less = ap (λ v. Some v) (sym is.first)
way_follows {t} {c} {start = start} {way} is (suc k) less =
    follow_next (current_head t c) k start (get_or way k 0) (way_follows is k (omega arith)) ∙ is.leads k less

module _ {t : CycleTable} {c : List ℕ} {low start : ℕ} (front : List ℕ) (v : ℕ)
    (is : IsWay t c low start (front ++ v ∷ [])) where
  -- the last variable of the way
  way_last : get_or (front ++ v ∷ []) (length front) 0 ≡ v
  way_last = get_or_push front v 0 (length front) refl

  way_size : length (front ++ v ∷ []) ≡ length front + 1
  way_size = length_push front v

  -- the way goes on to another variable
  pub way_more : (w : ℕ) → current_head t c v ≡ Some w → w ≢ start → low ≤ w → w < length t.heads
      → IsWay t c low start ((front ++ v ∷ []) ++ w ∷ [])
  way_more w leads other above below =
      let old = front ++ v ∷ [] in
      let size = length_push old w in
      record {
        first = get_or_append_left old (w ∷ []) 0 0 (omega (arith, way_size)) ∙ is.first;
        leads = λ k less.
            ap (current_head t c) (get_or_append_left old (w ∷ []) 0 k (omega (arith, less, size)))
            ∙ push_each (λ n u. (j : ℕ) → n ≡ suc j → current_head t c (get_or old j 0) ≡ Some u) old w
            (λ n within j next. subst (λ m. current_head t c (get_or old j 0) ≡ Some (get_or old m 0)) (sym next)
            (is.leads j (omega (arith, within, next))))
            (λ j next.
            let at : j ≡ length front = omega (arith, next, way_size) in
            ap (λ n. current_head t c (get_or old n 0)) at ∙ ap (current_head t c) way_last ∙ leads)
            (suc k) less k refl;
        away = λ k some less. push_each (λ n u. 0 < n → u ≢ start) old w (λ n within some. is.away n some within)
            (λ some. other) k less some;
        above = push_each (λ n u. low ≤ u) old w is.above above;
        below = push_each (λ n u. u < length t.heads) old w is.below below;
      }

  way_end : follow (current_head t c) (length front) start ≡ Some v
  way_end = way_follows is (length front) (omega (arith, way_size)) ∙ ap (λ u. Some u) way_last

  -- a cycle that occurs and has the start has the last variable of the way
  last_named : (e : Cube) → IsCycleThrough t c low start e → names e v ≡ true
  last_named e through =
      follows_in t.heads t.stacks c e start (length front) v through.cycle through.occurs through.named way_end

  -- there is none where the way leads to the root
  pub none_at_root : current_head t c v ≡ None → HasNoCycle t c low start
  none_at_root root e through =
      let on = stays_at t.heads t.stacks c e v through.cycle through.occurs (last_named e through) in
      none-some on.next (sym root ∙ on.leads)

  -- or to a variable below the bound
  pub none_at_lesser : (w : ℕ) → current_head t c v ≡ Some w → w < low → HasNoCycle t c low start
  none_at_lesser w leads less e through =
      let on = stays_at t.heads t.stacks c e v through.cycle through.occurs (last_named e through) in
      let same : on.next ≡ w = same_Some on.next w (sym on.leads ∙ leads) in
      let least = first_least e on.next through.cycle.cube on.named in
      let above = through.above in
      absurd (omega (arith, same, least, above))

  -- or passes more variables than there are
  pub none_longer : length t.heads ≤ length front → HasNoCycle t c low start
  none_longer long e through =
      let back = follows_as t c e start (length e) start through.cycle through.occurs through.named
      (comes_home t.heads e start through.cycle through.named) in
      let short = cycle_short t.heads e through.cycle in
      let there = way_follows is (length e) (omega (arith, short, way_size)) in
      is.away (length e) through.cycle.cube.some (omega (arith, short, way_size))
      (same_Some (get_or (front ++ v ∷ []) (length e) 0) start (sym there ∙ back))

  -- where the way leads back to the start it passed no variable twice
  way_distinct : current_head t c v ≡ Some start → (j k : ℕ) → j < k → k ≤ length front
      → get_or (front ++ v ∷ []) j 0 ≢ get_or (front ++ v ∷ []) k 0
  way_distinct back j k less within same =
      let way = front ++ v ∷ [] in
      let step = current_head t c in
      let size = way_size in
      let n = length way in
      let last : n ≡ suc (length front) = omega (arith, size) in
      let home : follow step n start ≡ Some start =
      ap (λ m. follow step m start) last ∙ follow_next step (length front) start v way_end ∙ back in
      let rest = n - k in
      let whole : k + rest ≡ n = omega (arith, size) in
      let from_k : follow step rest (get_or way k 0) ≡ Some start =
      sym (follow_more step k rest start (get_or way k 0) (way_follows is k (omega (arith, size))))
      ∙ ap (λ m. follow step m start) whole ∙ home in
      let early : follow step (j + rest) start ≡ Some start =
      follow_more step j rest start (get_or way j 0) (way_follows is j (omega (arith, size)))
      ∙ ap (follow step rest) same ∙ from_k in
      let there = way_follows is (j + rest) (omega (arith, size)) in
      let value : get_or way (j + rest) 0 ≡ start = same_Some (get_or way (j + rest) 0) start (sym there ∙ early) in
      is.away (j + rest) (omega (arith, size)) (omega (arith, size)) value

  -- and its variables are those of a cycle
  pub way_closed : current_head t c v ≡ Some start → IsClosedWalk t c low start (front ++ v ∷ [])
  way_closed back =
      let way = front ++ v ∷ [] in
      let depth = length front in
      let size = way_size in
      let loop = closed t c way depth 0 (omega (arith, size)) (record {
        order = omega arith;
        below = λ k from within. is.below k (omega (arith, size));
        distinct = λ j k from less within. way_distinct back j k less within;
        leads = λ k from less. is.leads k (omega (arith, size));
        back = ap (current_head t c) way_last ∙ back ∙ ap (λ u. Some u) (sym is.first);
      }) in
      let e = loop_of t c way depth 0 in
      let all : slice_range way 0 (depth + 1) ≡ way = take_all (depth + 1 - 0) way (omega (arith, size)) in
      let is_cube : IsCubeOf t c way e = subst (λ xs. IsCubeOf t c xs e) all loop.cube in
      let at = loop.on_only (first_of e) (first_named e loop.cycle.cube) in
      record {
        are = subst (AreMembers t) all loop.members;
        cube = e;
        is_cube = is_cube;
        through = record {
          cycle = loop.cycle;
          occurs = cube_occurs t c way e is_cube;
          named = subst (λ u. names e u ≡ true) is.first (loop.on 0 (omega arith) (omega arith));
          above = subst (λ u. low ≤ u) at.3 (is.above at.0 (omega (arith, size, at.2)));
        };
      }

-- a cycle that has this least variable has no lesser one, and one with no lesser one has it as its least
pub least_is : {t : CycleTable} {c : List ℕ} {start : ℕ} {e : Cube} → IsCycleThrough t c start start e
    → first_of e ≡ start
least_is {start = start} {e} through =
    let least = first_least e start through.cycle.cube through.named in
    let above = through.above in
    omega (arith, least, above)

pub through_least : {t : CycleTable} {c : List ℕ} {start : ℕ} {e : Cube} → IsCycle t.heads e → Occurs t.stacks c e
    → first_of e ≡ start → IsCycleThrough t c start start e
through_least {e = e} cycle occurs first = record {
  cycle = cycle;
  occurs = occurs;
  named = subst (λ u. names e u ≡ true) first (first_named e cycle.cube);
  above = omega (arith, first);
}

-- a variable of a cycle that occurs is on a cycle with no bound
pub on_cycle_through : (t : CycleTable) (c : List ℕ) (v : ℕ) → (on : IsOnCycle t c v) → IsCycleThrough t c 0 v on.cube
on_cycle_through t c v on = record {
  cycle = on.cycle;
  occurs = on.occurs;
  named = on.named;
  above = omega arith;
}
