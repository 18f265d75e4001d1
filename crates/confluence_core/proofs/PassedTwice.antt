-- Arrows that pass a variable twice have come to a cycle that occurs, and stay on it. So it is where they lead back to
-- their start, and where they go on for as many steps as there are variables.
use Rattle.std.proofs.Common.{inl, inr, ◌≡◌, ℕ, zero, suc, ◌+◌, ◌-◌, ◌<◌, ◌≤◌, true, List, length, Some, sym, ap, subst, ◌∙◌, arith}
use Rattle.std.proofs.lemmas.Bool.{cases_eq}
use Rattle.std.proofs.lemmas.Option.{same_Some}
use Rattle.pop_model.specs.Stacks.{value_at}
use Rattle.pop_model.specs.Popping.{cursor, names}
use Rattle.pop_model.specs.Cycles.{AreArrows, follow}
use Rattle.pop_model.proofs.Following.{follow_more, follow_before, follow_next, follow_last, demand_named}
use Rattle.pop_model.proofs.Loops.{loop_cube, loop_has, path_short}
use Rattle.pop_model.proofs.MadeCycles.{IsLoop, loop_is_cycle, loop_occurs}
use Rattle.pop_model.proofs.TreeEnd.{Repeats, repeats_or_not, passed, passed_is, follows_in}
use Rattle.confluence_core.specs.CycleTables.{CycleTable, current_slot, current_head}
use Rattle.confluence_core.specs.ArrowWalks.{IsOnCycle}

-- steps lead to a variable
pub follow_below : (t : CycleTable) (c : List ℕ) (start k w : ℕ) → AreArrows t.heads → start < length t.heads
    → follow (current_head t c) k start ≡ Some w → w < length t.heads
follow_below t c start zero w are below leads = subst (λ u. u < length t.heads) (same_Some start w leads) below
follow_below t c start (suc k) w are below leads =
    let last = follow_last (current_head t c) k start w leads in
    are.below last.0 (value_at t.stacks last.0 (cursor c last.0)) w last.2

module _ (t : CycleTable) (c : List ℕ) (start m w : ℕ) (leads : follow (current_head t c) m start ≡ Some w) where
  -- the variable after so many steps
  at : ℕ → ℕ
  at k = passed (current_head t c) start k

  -- the steps lead there
  along : (k : ℕ) → k ≤ m → follow (current_head t c) k start ≡ Some (at k)
  unfolding at
  along k le =
      let there = follow_before (current_head t c) k m start w le leads in
      passed_is (current_head t c) start k there.0 there.1

  -- one to the next
  goes : (k : ℕ) → suc k ≤ m → current_head t c (at k) ≡ Some (at (suc k))
  goes k le = sym (follow_next (current_head t c) k start (at k) (along k (omega arith))) ∙ along (suc k) le

  -- from the start
  begun : at 0 ≡ start
  begun = same_Some (at 0) start (sym (along 0 (omega arith)))

  -- to the last
  ended : at m ≡ w
  ended = same_Some (at m) w (sym (along m (omega arith)) ∙ leads)

  -- the loop between the two is a cycle that occurs
  repeated_cycle : Repeats at (suc m) → IsOnCycle t c w
  repeated_cycle r =
      let step = current_head t c in
      let slot = current_slot t c in
      let i = r.first in
      let n = r.again - suc i in
      let size : i + suc n ≡ r.again = omega (arith, r.order) in
      let loop : IsLoop t.heads slot at i n = record {
        distinct = λ a b from lt low. r.before a b (omega arith) lt (omega arith);
        leads = λ k from lt. goes k (omega (arith, r.below));
        closes = let last : suc (i + n) ≡ r.again = omega arith in
            goes (i + n) (omega (arith, r.below)) ∙ ap (λ j. Some (at j)) last ∙ ap (λ u. Some u) (sym r.same);
      } in
      let e = loop_cube slot at i (suc n) in
      let cycle = loop_is_cycle t.heads slot at i n loop in
      let occurs = loop_occurs t.stacks c at i (suc n) loop.distinct in
      let here : names e (at i) ≡ true = demand_named e (at i) (slot (at i))
      (loop_has slot at i (suc n) loop.distinct i (omega arith) (omega arith)) in
      let whole : i + (m - i) ≡ m = omega (arith, r.order, r.below) in
      let rest : follow step (m - i) (at i) ≡ Some w =
      sym (follow_more step i (m - i) start (at i) (along i (omega (arith, r.order, r.below))))
      ∙ ap (λ k. follow step k start) whole ∙ leads in
      record {
        cube = e;
        cycle = cycle;
        occurs = occurs;
        named = follows_in t.heads t.stacks c e (at i) (m - i) w cycle occurs here rest;
      }

  -- as many steps as there are variables lead onto a cycle
  pub long_on_cycle : AreArrows t.heads → start < length t.heads → m ≡ length t.heads → IsOnCycle t c w
  long_on_cycle are below size =
      let n = length t.heads in
      let within : (k : ℕ) → k ≤ m → at k < n = λ k le. elim (cases_eq k 0) [
        | inl none ↦ subst (λ j. at j < n) (sym none) (omega (arith, begun))
        | inr some ↦ let back : suc (k - 1) ≡ k = omega arith in
            subst (λ j. at j < n) back (are.below (at (k - 1)) (value_at t.stacks (at (k - 1)) (cursor c (at (k - 1))))
            (at (suc (k - 1))) (goes (k - 1) (omega arith)))
      ] in
      elim (repeats_or_not at (suc m)) [
        | inl r ↦ repeated_cycle r
        | inr d ↦
            let short = path_short at 0 (suc m) n d (λ k from lt. within k (omega arith)) in
            absurd (omega (arith, short))
      ]

  -- steps that lead back stand on one
  pub back_on_cycle : 0 < m → w ≡ start → IsOnCycle t c w
  back_on_cycle some back = elim (repeats_or_not at (suc m)) [
    | inl r ↦ repeated_cycle r
    | inr d ↦ absurd (d 0 m (omega arith) some (omega arith) (begun ∙ sym back ∙ sym ended))
  ]
