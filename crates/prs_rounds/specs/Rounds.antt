-- The run by rounds: in each round, every variable of the resampling set moves on by one entry.
use Rattle.std.specs.Prelude.{◌≡◌, ◌⊎◌, ℕ, zero, suc, ◌+◌, ◌<◌, ◌≤◌, ◌^◌, List, length, Option, MatchOption}
use Rattle.pop_model.specs.Stacks.{variables_of, height_of}
use Rattle.pop_model.specs.Popping.{AreWithin, cursor, values_at}
use Rattle.pop_model.specs.Families.{Event}
use Rattle.pop_model.specs.Instances.{Instance}
use Rattle.pop_model.specs.Places.{IsLeast}
use Rattle.pop_model.specs.Runs.{IsFinished, IsStuckList, start_of}
use Rattle.prs_rounds.specs.Resampling.{IsResampledVariable}
use Rattle.prs_rounds.specs.declared.round_end.RoundEnd.{RoundEnd}

-- some event occurs, each variable of the resampling set has a next entry and moves on to it, and
-- the others stay
pub record IsRound (i : Instance) (c new : List ℕ) : Type 0 where
  pub some : IsFinished i c → ⊥
  pub room : (v : ℕ) → IsResampledVariable i c v → cursor c v + 1 < height_of i.stacks v
  pub count : length new ≡ length c
  pub moved : (v : ℕ) → IsResampledVariable i c v → cursor new v ≡ cursor c v + 1
  pub kept : (v : ℕ) → (IsResampledVariable i c v → ⊥) → cursor new v ≡ cursor c v

-- this many rounds, one after another, lead from the first cursors to the last
abbrev pub Rounds : Instance → ℕ → List ℕ → List ℕ → Type 0
Rounds i zero c end = c ≡ end
Rounds i (suc n) c end = (next : List ℕ) × IsRound i c next × Rounds i n next end

-- a variable of the resampling set that is at its last entry
pub record HasNoNext (i : Instance) (c : List ℕ) (v : ℕ) : Type 0 where
  pub resampled : IsResampledVariable i c v
  pub last : height_of i.stacks v ≤ cursor c v + 1

-- Rounds from zeros lead to these cursors. Either no event occurs there, or the short variable is
-- the lowest of the resampling set that is at its last entry. The stuck list has all events that
-- occur.
pub record IsRoundsEnd (i : Instance) (cursors : List ℕ) (rounds : ℕ) (stuck : List Event)
    (short : Option ℕ) : Type 0 where
  pub run : Rounds i rounds (start_of i) cursors
  pub end : MatchOption short (IsFinished i cursors) (IsLeast (HasNoNext i cursors))
  pub stuck_list : IsStuckList i cursors stuck

-- Rounds from the first cursors, at most `limit`, lead to these. Either no event occurs there, or
-- `limit` rounds were made, or the short variable is the lowest of the resampling set that is at
-- its last entry. The stuck list has all events that occur.
pub record IsRoundsStop (i : Instance) (from : List ℕ) (limit : ℕ) (cursors : List ℕ) (rounds : ℕ) (stuck : List Event)
    (short : Option ℕ) : Type 0 where
  pub run : Rounds i rounds from cursors
  pub end : MatchOption short (IsFinished i cursors ⊎ (rounds ≡ limit)) (IsLeast (HasNoNext i cursors))
  pub stuck_list : IsStuckList i cursors stuck
  pub most : rounds ≤ limit
  pub few : rounds < 2 ^ 62

-- the result of a run by rounds that may stop: the end of its rounds, and the value of each
-- variable there
pub record LeavesStop (i : Instance) (from : List ℕ) (limit : ℕ) (left : RoundEnd) : Type 0 where
  pub stop : IsRoundsStop i from limit left.cursors left.rounds left.stuck left.short
  pub count : length left.cursors ≡ variables_of i.stacks
  pub within : AreWithin i.stacks left.cursors
  pub values : left.values.items ≡ values_at i.stacks left.cursors

-- the result of a run by rounds: its end, and the value of each variable there
pub record LeavesEnd (i : Instance) (left : RoundEnd) : Type 0 where
  pub end : IsRoundsEnd i left.cursors left.rounds left.stuck left.short
  pub count : length left.cursors ≡ variables_of i.stacks
  pub within : AreWithin i.stacks left.cursors
  pub values : left.values.items ≡ values_at i.stacks left.cursors
