-- Samples by rounds: where one begins, where it stops or ends, and how it goes on.
use Rattle.std.proofs.Common.{◌≡◌, ◌⊎◌, inl, inr, ℕ, zero, suc, ◌+◌, ◌-◌, ◌<◌, ◌↔◌, Bool, IsTrue, List, [], ◌∷◌, length, refl, sym, subst, arith}
use Rattle.std.specs.Prelude.{MatchOption, Option, None, Some}
use Rattle.std.proofs.lemmas.List.{length-replicate, get_or-replicate}
use Rattle.pop_model.specs.Stacks.{Origin, height_from, height_of, origin_for, stacks_for, variables_of}
use Rattle.pop_model.specs.Stacks.Origin.{Given, Keyed}
use Rattle.pop_model.specs.Families.{Event}
use Rattle.pop_model.specs.Instances.{Instance, instance_for}
use Rattle.pop_model.specs.Places.{IsLeast}
use Rattle.pop_model.specs.Popping.{AreWithin}
use Rattle.pop_model.specs.Runs.{IsFinished, IsStuckList}
use Rattle.pop_model.proofs.Rising.{head_member}
use Rattle.confluence_core.specs.declared.end.End.{End}
use Rattle.confluence_core.specs.Runs.{IsEndOver}
use Rattle.pop_batch.specs.Parts.{CanStart, start_at}
use Rattle.pop_batch.proofs.StoppedRuns.{can_start_for}
use Rattle.prs_rounds.specs.declared.round_end.RoundEnd.{RoundEnd}
use Rattle.prs_rounds.specs.Rounds.{HasNoNext, LeavesStop, Rounds}
use Rattle.array_calls.specs.declared.row_samples.RowSamples.TheVariants.{ByRounds}
use Rattle.array_calls.specs.KeptEnds.{rounded}
use Rattle.array_calls.specs.Rounded.{IsRoundedEnd, IsRoundedFrom, IsRoundedStop, IsRoundedStopFrom}
use Rattle.array_calls.specs.RowSamples.{IsRowPart, IsStopped}
use Rattle.array_calls.specs.Values.{AreOfPairs}
use Rattle.array_calls.proofs.PairValues.{values_two}

-- a sample may begin at the cursors that are given, or before its first round
pub starts_within : (i : Instance) (j : ℕ) (from : Option (List ℕ)) → ((v : ℕ) → 0 < height_of i.stacks v)
    → CanStart i from
    → (variables_of i.stacks ≡ length (start_at i from)) × AreWithin (stacks_for j i.stacks) (start_at i from)
starts_within i j None tall can =
    let n = variables_of i.stacks in (
      sym (length-replicate n 0),
      λ v below.
          let high = tall v in
          let same = same_height j i.stacks.origin v in
          let first = get_or-replicate {A = ℕ} n v 0 0 below in
          omega (arith, high, same, first),
    )
  where
    same_height : (j : ℕ) (o : Origin) (v : ℕ) → height_from (origin_for j o) v ≡ height_from o v
    same_height j (Given rows) v = refl
    same_height j (Keyed key sample height) v = refl
starts_within i j (Some c) tall can = (can.0, (can_start_for i j (Some c) can).1)

-- it is the start of the sample's own instance
start_for : (i : Instance) (j : ℕ) (from : Option (List ℕ)) → start_at i from ≡ start_at (instance_for j i) from
start_for i j None = refl
start_for i j (Some c) = refl

-- some event occurs where one is stuck
some_occurs : (k : Instance) (c : List ℕ) (stuck : List Event) → IsStuckList k c stuck → 0 < length stuck
    → IsFinished k c → ⊥
some_occurs k c [] list some finished = absurd (omega (arith, some))
some_occurs k c (e ∷ stuck) list some finished =
    let has = (list.exact e).0 (head_member e stuck) in finished e has.0 has.1

-- and none where none is
none_occurs : (k : Instance) (c : List ℕ) (stuck : List Event) → IsStuckList k c stuck → (0 < length stuck → ⊥)
    → IsFinished k c
none_occurs k c stuck list none e event occurs =
    let has = (list.exact e).1 (event, occurs) in none (omega (arith, has.1))

module _ (k : Instance) (start : List ℕ) (limit : ℕ) (left : RoundEnd) (is : LeavesStop k start limit left)
    (over : IsEndOver k.stacks (rounded left)) where
  -- where rounds stopped
  stop_of : IsStopped left.short left.stuck → IsRoundedStopFrom k start (rounded left) × (left.rounds ≡ limit)
  stop_of stopped =
      let some = some_occurs k left.cursors left.stuck is.stop.stuck_list stopped.1 in
      let all : left.rounds ≡ limit =
      elim (subst (λ (s : Option ℕ). MatchOption s (IsFinished k left.cursors ⊎ (left.rounds ≡ limit))
      (IsLeast (HasNoNext k left.cursors))) stopped.0 is.stop.end) [
        | inl finished ↦ absurd (some finished)
        | inr spent ↦ spent
      ] in
      (record { run = is.stop.run; stuck_list = is.stop.stuck_list; over = over; some = some }, all)

  -- why they ended elsewhere
  last_of : (short : Option ℕ) → (IsStopped short left.stuck → ⊥)
      → MatchOption short (IsFinished k left.cursors ⊎ (left.rounds ≡ limit)) (IsLeast (HasNoNext k left.cursors))
      → MatchOption short (IsFinished k left.cursors) (IsLeast (HasNoNext k left.cursors))
  last_of None closed end = none_occurs k left.cursors left.stuck is.stop.stuck_list (λ some. closed (refl, some))
  last_of (Some v) closed end = end

  end_of : (IsStopped left.short left.stuck → ⊥) → IsRoundedFrom k start (rounded left)
  end_of closed = record {
    short = left.short;
    run = is.stop.run;
    last = last_of left.short closed is.stop.end;
    stuck_list = is.stop.stuck_list;
    over = over;
  }

-- where rounds left a sample that may stop, it stopped or is at its end
pub round_part : (i : Instance) (n j : ℕ) (from : Option (List ℕ)) (limit : ℕ) (left : RoundEnd) (is_open : Bool)
    → AreOfPairs n i.stacks → LeavesStop (instance_for j i) (start_at i from) limit left
    → (IsTrue is_open ↔ IsStopped left.short left.stuck)
    → IsRowPart (ByRounds i) j from limit (record { at = rounded left; is_open = is_open })
round_part i n j from limit left is_open pairs leaves decides =
    let k : Instance = instance_for j i in
    let is : LeavesStop k (start_at k from) limit left =
    subst (λ (c : List ℕ). LeavesStop k c limit left) (start_for i j from) leaves in
    let over : IsEndOver k.stacks (rounded left) = record {
      count = sym is.count;
      within = is.within;
      values = values_two i n j left.cursors left.values.items pairs is.count is.values;
    } in
    let few = is.stop.few in
    record {
      stopped = λ yes. stop_of k (start_at k from) limit left is over (decides.0 yes);
      ended = λ closed. end_of k (start_at k from) limit left is over (λ stopped. closed (decides.1 stopped));
      most = is.stop.most;
      few = omega (arith, few);
    }

-- rounds behind rounds
joined : (i : Instance) (n m : ℕ) (a b c : List ℕ) → Rounds i n a b → Rounds i m b c → Rounds i (n + m) a c
joined i zero m a b c same rounds =
    subst (λ (k : ℕ). Rounds i k a c) (let none : m ≡ zero + m = omega arith in none)
    (subst (λ (x : List ℕ). Rounds i m x c) (sym same) rounds)
joined i (suc n) m a b c first rounds =
    subst (λ (k : ℕ). Rounds i k a c) (let one : suc (n + m) ≡ suc n + m = omega arith in one)
    (first.0, first.1, joined i n m first.0 b c first.2 rounds)

-- where rounds go on from the place at which they stopped, they come to the end of those that didn't stop
pub rounds_gone_on : (i : Instance) (j : ℕ) (from more : Option (List ℕ)) (stop end : End)
    → start_at (instance_for j i) more ≡ stop.cursors → IsRoundedStop i j from stop → IsRoundedEnd i j more end
    → IsRoundedEnd i j from (record end { pops = stop.pops + end.pops })
rounds_gone_on i j from more stop end begins at is =
    let k : Instance = instance_for j i in
    record {
      short = is.short;
      run = joined k stop.pops end.pops (start_at k from) stop.cursors end.cursors at.run
          (subst (λ (c : List ℕ). Rounds k end.pops c end.cursors) begins is.run);
      last = is.last;
      stuck_list = is.stuck_list;
      over = record { count = is.over.count; within = is.over.within; values = is.over.values };
    }
