-- Batches: many samples under one key.
use Rattle.std.specs.Prelude.{◌≡◌, ℕ, if◌then◌else◌, List, Option, Some}
use Rattle.pop_model.specs.Instances.{Instance}
use Rattle.confluence_core.specs.declared.end.End.{End}
use Rattle.pop_batch.specs.Batches.{AreEnds, some_stuck}

-- This many samples are requested, and these are their ends. End j, from 0, is that of the
-- one-thread run of the instance for sample j.
pub record IsBatchOf (asked : Option ℕ) (i : Instance) (ends : List End) : Type 0 where
  pub count : ℕ
  pub asked_is : asked ≡ Some count
  pub are : AreEnds i count ends

-- the status of a batch says whether an event still occurs at some end
abbrev pub batch_status : List End → ℕ
batch_status ends = if some_stuck ends then 1 else 0
