-- Batches: the ends of many samples of one instance.
use Rattle.std.specs.Prelude.{◌≡◌, ℕ, nat_lt, Bool, List, length, slice_get, Some}
use Rattle.std.specs.List.{list_any}
use Rattle.pop_model.specs.Stacks.{stacks_for}
use Rattle.pop_model.specs.Instances.{Instance, instance_for}
use Rattle.pop_model.specs.Runs.{IsFirstEnd}
use Rattle.confluence_core.specs.declared.end.End.{End}
use Rattle.confluence_core.specs.Runs.{IsEndOver}

-- the end of the one-thread run on a sample of the instance: the run's cursors, pops and stuck
-- list, and the values at its cursors
pub record IsSampleEnd (i : Instance) (j : ℕ) (end : End) : Type 0 where
  pub first : IsFirstEnd (instance_for j i) end.cursors end.pops end.stuck
  pub over : IsEndOver (stacks_for j i.stacks) end

-- this many ends; end j, counted from 0, is that of sample j
pub record AreEnds (i : Instance) (count : ℕ) (ends : List End) : Type 0 where
  pub count_is : length ends ≡ count
  pub each : (j : ℕ) (end : End) → slice_get ends j ≡ Some end → IsSampleEnd i j end

-- an event still occurs at some end
abbrev pub some_stuck : List End → Bool
some_stuck ends = list_any (λ end. nat_lt 0 (length end.stuck)) ends
