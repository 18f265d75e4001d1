-- The samples of an instance that rows have, and how far one of them came.
use Rattle.std.specs.Prelude.{◌≡◌, ℕ, ◌<◌, ◌≤◌, ◌^◌, List, length, IsTrue, Option, None}
use Rattle.pop_model.specs.Families.{Event}
use Rattle.pop_model.specs.Instances.{Instance}
use Rattle.pop_batch.specs.Parts.{IsPartEnd, IsPartStop}
use Rattle.array_calls.specs.declared.row_part.RowPart.{RowPart}
use Rattle.array_calls.specs.declared.row_samples.RowSamples.{RowSamples}
use Rattle.array_calls.specs.declared.row_samples.RowSamples.TheVariants.{ByPopping, ByRounds}
use Rattle.array_calls.specs.Rounded.{IsRoundedEnd, IsRoundedStop}
use Rattle.array_calls.specs.Values.{Ends}

-- the instance
abbrev pub instance_of : RowSamples → Instance
instance_of (ByPopping i) = i
instance_of (ByRounds i) = i

-- the ends of its samples
abbrev pub ends_of : RowSamples → Ends
ends_of (ByPopping i) = IsPartEnd i
ends_of (ByRounds i) = IsRoundedEnd i

-- and where they are stopped
abbrev pub stops_of : RowSamples → Ends
stops_of (ByPopping i) = IsPartStop i
stops_of (ByRounds i) = IsRoundedStop i

-- a run by rounds that has no short variable stopped where some event occurs
abbrev pub IsStopped : Option ℕ → List Event → Type 0
IsStopped short stuck = (short ≡ None) × (0 < length stuck)

-- How far sample j came from given cursors: to its end, with at most so many pops or rounds, or to where it was stopped,
-- with just so many.
pub record IsRowPart (samples : RowSamples) (j : ℕ) (from : Option (List ℕ)) (limit : ℕ) (part : RowPart)
    : Type 0 where
  pub stopped : IsTrue part.is_open → stops_of samples j from part.at × (part.at.pops ≡ limit)
  pub ended : (IsTrue part.is_open → ⊥) → ends_of samples j from part.at
  pub most : part.at.pops ≤ limit
  pub few : part.at.pops < 2 ^ 63
