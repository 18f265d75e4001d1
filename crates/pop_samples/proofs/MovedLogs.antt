-- A log looks at no entry at or above its replay, but for whether there is one. So it is legal on all stacks that have
-- the same entries below its replay, and are higher.
use Rattle.std.proofs.Common.{◌≡◌, ℕ, ◌+◌, ◌<◌, ◌≤◌, true, cond, List, [], ◌∷◌, length, sym, ap, ◌∙◌, arith, Contains}
use Rattle.std.proofs.lemmas.List.Elements.{All-contains}
use Rattle.pop_model.specs.Stacks.{StackTable, variables_of, domain_of, value_at, height_of}
use Rattle.pop_model.specs.Popping.{Cube, AreWithin, cursor, names, pop}
use Rattle.pop_model.specs.Families.{Event, Family, IsEvent}
use Rattle.pop_model.specs.Families.Family.{Listed, Cycles}
use Rattle.pop_model.specs.Instances.{Instance, FitsStacks, FamilyFits}
use Rattle.pop_model.specs.Logs.{LogRecord, IsLegalAt, IsLegal, replay}
use Rattle.pop_model.proofs.Diamond.{named, names_it, all_by_members}
use Rattle.pop_model.proofs.PopLemmas.{length-pop, cursor-pop}
use Rattle.pop_model.proofs.Members.{all_at}
use Rattle.pop_model.proofs.CycleFamily.{arrow_demands, stays_in}
use Rattle.pop_model.proofs.Following.{named_demand}
use Rattle.pop_model.proofs.TreeEnd.{head_within}
use Rattle.pop_model.proofs.Replays.{not_lowered_by}
use Rattle.pop_samples.specs.Finishing.{AgreeBelow, with_stacks}

-- the events of a family that fits name variables of the stacks
pub known_variable : (s : StackTable) (family : Family) → FamilyFits s family → (e : Event) → IsEvent family e
    → (v : ℕ) → names e.cube v ≡ true → v < variables_of s
known_variable s (Listed rows) fits e is v at =
    let fit : FitsStacks s e.cube = all_at (λ (r : ℕ × Cube). FitsStacks s r.1) rows e.unit (is.0, e.cube) is.1 fits in
    let x = named e.cube v at in
    (All-contains (λ (p : ℕ × ℕ). (p.0 < variables_of s) × (p.1 < domain_of s p.0)) e.cube (v, x.0) fit x.1).0
known_variable s (Cycles heads) fits e is v at =
    let on = stays_in heads e.cube is.0 v at in
    let x = named_demand e.cube v at in
    let below : v < length heads =
    head_within heads v x.0 on.next (sym (arrow_demands heads e.cube v x.0 x.1) ∙ on.leads) in
    let count : length heads ≡ variables_of s = fits.0 in
    omega (arith, below, count)

-- the entry that a record uses lies below the replay
used_below : (c : List ℕ) (r : LogRecord) (log : List LogRecord) (v : ℕ) → names r.event.cube v ≡ true → v < length c
    → cursor c v < cursor (replay c (r ∷ log)) v
used_below c r log v is below =
    let later : List ℕ = pop c r.event.cube in
    let here : cursor later v ≡ cursor c v + 1 =
    cursor-pop c r.event.cube v below ∙ ap (λ b. cond b (cursor c v + 1) (cursor c v)) is in
    let rest : cursor later v ≤ cursor (replay later log) v =
    not_lowered_by later log v (omega (arith, below, length-pop c r.event.cube)) in
    omega (arith, here, rest)

-- a legal log is legal on stacks with the same entries below its replay
pub moved_log : (i : Instance) (t : StackTable) → FamilyFits i.stacks i.family → (c : List ℕ)
    → length c ≡ variables_of i.stacks → (log : List LogRecord) → AgreeBelow (replay c log) i.stacks t
    → AreWithin t (replay c log) → IsLegal i c log → IsLegal (with_stacks i t) c log
moved_log i t fits c size [] agree within legal = tt
moved_log i t fits c size (r ∷ log) agree within legal =
    let e : Cube = r.event.cube in
    let s = i.stacks in
    let below : (p : ℕ × ℕ) → Contains e p → p.0 < length c = λ p has.
    let is = known_variable s i.family fits r.event legal.0.event p.0 (names_it e p has) in omega (arith, is, size) in
    let used : (p : ℕ × ℕ) → Contains e p → cursor c p.0 < cursor (replay c (r ∷ log)) p.0 = λ p has.
    used_below c r log p.0 (names_it e p has) (below p has) in
    let here : IsLegalAt (with_stacks i t) c r = record {
      event = legal.0.event;
      poppable = record {
        occurs = λ k d h. all_by_members (λ p. value_at t p.0 (cursor c p.0) ≡ p.1) e
            (λ p has. sym (agree.values p.0 (cursor c p.0) (used p has))
            ∙ All-contains (λ (p : ℕ × ℕ). value_at s p.0 (cursor c p.0) ≡ p.1) e p legal.0.poppable.occurs has) k d h;
        next = λ k d h. all_by_members (λ p. cursor c p.0 + 1 < height_of t p.0) e
            (λ p has.
            let high : cursor (replay c (r ∷ log)) p.0 < height_of t p.0 =
            within p.0 (let b = below p has in let n = agree.count in omega (arith, b, n, size)) in
            let low = used p has in
            omega (arith, high, low)) k d h;
      };
      entries = legal.0.entries;
    } in
    (here, moved_log i t fits (pop c e) (length-pop c e ∙ size) log agree within legal.1)
