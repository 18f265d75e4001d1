-- Runs by rounds that stop and go on: their rounds, one behind another, are those of one run.
use Rattle.std.proofs.Common.{◌≡◌, ◌≢◌, ◌⊎◌, inl, inr, ℕ, zero, suc, ◌+◌, List, [], Option, None, Some, length, refl, sym, ap, subst, arith}
use Rattle.std.specs.Prelude.{MatchOption}
use Rattle.pop_model.specs.Families.{Event}
use Rattle.pop_model.specs.Instances.{Instance}
use Rattle.pop_model.specs.Runs.{IsFinished, IsStuckList, start_of}
use Rattle.prs_rounds.specs.Laws.{GoesOn, StopsOnTheWay}
use Rattle.pop_model.specs.Places.{IsLeast}
use Rattle.prs_rounds.specs.declared.round_end.RoundEnd.{RoundEnd}
use Rattle.prs_rounds.specs.Rounds.{HasNoNext, IsRoundsEnd, IsRoundsStop, LeavesEnd, LeavesStop, Rounds}

-- rounds behind rounds
joined : (i : Instance) (n m : ℕ) (a b c : List ℕ) → Rounds i n a b → Rounds i m b c → Rounds i (n + m) a c
joined i zero m a b c same rounds =
    subst (λ (k : ℕ). Rounds i k a c) (let none : m ≡ zero + m = omega arith in none)
    (subst (λ (x : List ℕ). Rounds i m x c) (sym same) rounds)
joined i (suc n) m a b c first rounds =
    subst (λ (k : ℕ). Rounds i k a c) (let one : suc (n + m) ≡ suc n + m = omega arith in one)
    (first.0, first.1, joined i n m first.0 b c first.2 rounds)

pub stops_on_the_way : StopsOnTheWay
stops_on_the_way i between c n limit rounds stuck short before stop =
    joined i n rounds (start_of i) between c before stop.run

-- no event occurs where none is stuck
none_stuck : (i : Instance) (c : List ℕ) (stuck : List Event) → IsStuckList i c stuck → stuck ≡ [] → IsFinished i c
none_stuck i c stuck list none e event occurs =
    let has = (list.exact e).1 (event, occurs) in
    let size : length stuck ≡ 0 = ap length none in
    absurd (omega (arith, has.1, size))

pub goes_on : GoesOn
goes_on i between c n limit rounds stuck None before stop done = record {
  run = joined i n rounds (start_of i) between c before stop.run;
  end = elim done [
    | inl short ↦ absurd (short refl)
    | inr none ↦ none_stuck i c stuck stop.stuck_list none
  ];
  stuck_list = stop.stuck_list;
}
goes_on i between c n limit rounds stuck (Some v) before stop done = record {
  run = joined i n rounds (start_of i) between c before stop.run;
  end = stop.end;
  stuck_list = stop.stuck_list;
}

-- so many rounds as 64 bits count never come, so a run with no lower limit has the end of the whole run
pub whole_run : (i : Instance) (zeros : List ℕ) (left : RoundEnd) → zeros ≡ start_of i
    → LeavesStop i zeros 18446744073709551615 left → LeavesEnd i left
whole_run i zeros left same is = record {
  end = record {
    run = subst (λ from. Rounds i left.rounds from left.cursors) same is.stop.run;
    end = finishes left.short is.stop.end;
    stuck_list = is.stop.stuck_list;
  };
  count = is.count;
  within = is.within;
  values = is.values;
}
  where
    finishes : (short : Option ℕ)
        → MatchOption short (IsFinished i left.cursors ⊎ (left.rounds ≡ 18446744073709551615))
        (IsLeast (HasNoNext i left.cursors))
        → MatchOption short (IsFinished i left.cursors) (IsLeast (HasNoNext i left.cursors))
    finishes None end = elim end [
      | inl finished ↦ finished
      | inr all ↦ absurd (let few = is.stop.few in omega (arith, all, few))
    ]
    finishes (Some v) end = end
