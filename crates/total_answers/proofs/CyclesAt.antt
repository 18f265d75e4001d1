-- Whether a cycle occurs whose least variable is a given one is found by following the arrows from it: where they first
-- come back, they have closed a cycle, and another that occurs and has the variable is the same.
use Rattle.std.proofs.Common.{inl, inr, ◌≡◌, ℕ, suc, ◌+◌, ◌-◌, ◌<◌, ◌≤◌, true, List, length, Option, Some, None, sym, ap, subst, ◌∙◌, arith}
use Rattle.std.proofs.lemmas.Bool.{cases_eq}
use Rattle.std.proofs.lemmas.Option.{none-some, same_Some}
use Rattle.pop_model.specs.Stacks.{StackTable}
use Rattle.pop_model.specs.Popping.{Cube, Occurs, names, current}
use Rattle.pop_model.specs.Cycles.{IsCycle, follow, arrow_at, first_of}
use Rattle.pop_model.specs.Places.{IsLeast}
use Rattle.pop_model.proofs.Following.{follow_before, follow_more, follow_next, demand_named}
use Rattle.pop_model.proofs.CycleFamily.{Agree, Heads, first_named, same_cycle}
use Rattle.pop_model.proofs.Loops.{loop_cube, loop_has, Distinct}
use Rattle.pop_model.proofs.MadeCycles.{IsLoop, loop_is_cycle, loop_occurs}
use Rattle.pop_model.proofs.TreeEnd.{occurs_demand, passed, passed_is}
use Rattle.confluence_core.specs.CycleTables.{CycleTable}
use Rattle.confluence_core.proofs.ClosedWalks.{comes_home, cycle_short, follows_as}
use Rattle.prs_rounds.proofs.ClosedSets.{IsDecided, decide_both}
use Rattle.round_samples.proofs.Moving.{least_below}
use Rattle.total_answers.proofs.Deciding.{Finds, decide_lt}

-- an option has this value, or not
has_value : (o : Option ℕ) (v : ℕ) → IsDecided (o ≡ Some v)
has_value None v = inr (λ is. none-some v is)
has_value (Some x) v = elim (cases_eq x v) [
  | inl same ↦ inl (ap (λ (n : ℕ). Some n) same)
  | inr other ↦ inr (λ is. other (same_Some x v is))
]

module _ (s : StackTable) (heads : Heads) (c : List ℕ) where
  -- the arrows come back after so many steps
  abbrev Returns : ℕ → ℕ → Type 0
  Returns v k = (0 < k) × (follow (arrow_at heads s c) k v ≡ Some v)

  -- a cycle that occurs
  abbrev pub Here : Cube → Type 0
  Here e = IsCycle heads e × Occurs s c e

  -- two of one variable are one
  one_here : (e f : Cube) (v : ℕ) → Here e → Here f → names e v ≡ true → names f v ≡ true → e ≡ f
  one_here e f v (is, occurs) (is', occurs') named named' =
      let agree : Agree e f = λ u x y a b. sym (occurs_demand s c e u x occurs a) ∙ occurs_demand s c f u y occurs' b in
      same_cycle heads e f is is' agree v named named'

  -- a cycle that occurs, and has the variable
  record Through (v : ℕ) : Type 0 where
    cube : Cube
    here : Here cube
    named : names cube v ≡ true

  -- where the arrows first come back, they have closed one
  closed : (v k : ℕ) → IsLeast (Returns v) k → Through v
  closed v k least =
      let step = arrow_at heads s c in
      let back = least.holds.1 in
      let some = least.holds.0 in
      let at = passed step v in
      let along : (j : ℕ) → j ≤ k → follow step j v ≡ Some (at j) = λ j low.
      let there = follow_before step j k v v low back in passed_is step v j there.0 there.1 in
      let first : at 0 ≡ v = same_Some (at 0) v (sym (along 0 (omega arith))) in
      let last : at k ≡ v = same_Some (at k) v (sym (along k (omega arith)) ∙ back) in
      let distinct : Distinct at 0 k = λ a b from less below same.
      let rest : ℕ = k - b in
      let whole : b + rest ≡ k = omega (arith, below) in
      let home : follow step rest (at b) ≡ Some v =
      sym (follow_more step b rest v (at b) (along b (omega (arith, below))))
      ∙ ap (λ j. follow step j v) whole ∙ back in
      let early : follow step (a + rest) v ≡ Some v =
      follow_more step a rest v (at a) (along a (omega (arith, less, below))) ∙ ap (follow step rest) same ∙ home in
      least.none_before (a + rest) (omega (arith, less, below)) (omega (arith, below), early) in
      let m : ℕ = k - 1 in
      let size : k ≡ suc m = omega (arith, some) in
      let distinct' : Distinct at 0 (suc m) = subst (Distinct at 0) size distinct in
      let loop : IsLoop heads (current s c) at 0 m = record {
        distinct = distinct';
        leads = λ j from below.
            sym (follow_next step j v (at j) (along j (omega (arith, below, size))))
            ∙ along (suc j) (omega (arith, below, size));
        closes =
            let end : 0 + m ≡ m = omega arith in
            let next : suc m ≡ k = sym size in
            ap (λ j. step (at j)) end
            ∙ sym (follow_next step m v (at m) (along m (omega (arith, size))))
            ∙ ap (λ j. follow step j v) next ∙ back ∙ ap (λ (n : ℕ). Some n) (sym first);
      } in
      let e : Cube = loop_cube (current s c) at 0 (suc m) in
      record {
        cube = e;
        here = (loop_is_cycle heads (current s c) at 0 m loop, loop_occurs s c at 0 (suc m) distinct');
        named = subst (λ u. names e u ≡ true) first
            (demand_named e (at 0) (current s c (at 0))
            (loop_has (current s c) at 0 (suc m) distinct' 0 (omega arith) (omega arith)));
      }

  -- so it is found whether one occurs whose least variable this is
  pub cycle_at : (v : ℕ) → Finds (λ (e : Cube). Here e × (first_of e ≡ v))
  cycle_at v =
      elim (least_below (Returns v) (suc (length heads))
      (λ k. decide_both (0 < k) (follow (arrow_at heads s c) k v ≡ Some v) (decide_lt 0 k)
      (has_value (follow (arrow_at heads s c) k v) v))) [
        | inl (k, least) ↦
            let through = closed v k least in
            elim (cases_eq (first_of through.cube) v) [
              | inl first ↦ inl (through.cube, (through.here, first))
              | inr other ↦ inr (λ f (here, first).
                  let named = subst (λ u. names f u ≡ true) first (first_named f here.0.cube) in
                  other (ap first_of (one_here through.cube f v through.here here through.named named) ∙ first))
            ]
        | inr none ↦ inr (λ f (here, first).
            let t : CycleTable = record { stacks = s; heads = heads } in
            let named = subst (λ u. names f u ≡ true) first (first_named f here.0.cube) in
            let short = cycle_short heads f here.0 in
            none (length f) (omega (arith, short)) (
              here.0.cube.some,
              follows_as t c f v (length f) v here.0 here.1 named (comes_home heads f v here.0 named),
            ))
      ]
