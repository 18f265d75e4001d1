-- The arguments and the results of makers of runs.
use Rattle.std.specs.Prelude.{◌≡◌, ℕ, Bool, List, Option, Some}
use Rattle.pop_model.specs.Instances.{Instance, instance_raised}
use Rattle.pop_model.specs.Runs.{start_of}
use Rattle.confluence_core.specs.declared.reached.Reached.{Reached}
use Rattle.confluence_core.specs.declared.run.Run.{Run}
use Rattle.confluence_core.specs.Kept.{keeps_log}
use Rattle.confluence_core.specs.Runs.{IsRunOf, ended}
use Rattle.confluence_core.specs.Stretches.{GoesOn, HasCome, IsReached}
use Rattle.growing_instances.specs.Growing.{MayGrowTo, MayIndex}
use Rattle.run_makers.specs.declared.stages.Stages.{Stages}

-- a run of the instance from zeros to an end, and the instance itself
pub record IsRunTo (i : Instance) (keeps : Bool) (ran : Run × Instance) : Type 0 where
  pub instance : ran.1 ≡ i
  pub run : IsRunOf ran.1 (start_of ran.1) keeps ran.0

-- the instance may grow to the last height
abbrev pub MayGrow : Stages → Type 0
MayGrow s = MayGrowTo (Some s.last) s.instance.stacks

-- a run that is made in stages is a run at the last height
abbrev pub IsRunInStages : Stages → Run × Instance → Type 0
IsRunInStages s ran = IsRunTo (instance_raised s.last s.instance) (keeps_log s.keep) ran

-- some run has reached this state, and the index of the family is at hand, or nothing is
pub record MayGoOn (i : Instance) (at_hand : Option (List (List ℕ))) (so_far : Reached) : Type 0 where
  pub index : MayIndex i.family at_hand
  pub reached : HasCome i so_far

-- The result continues the given run to its end. It is a run from the start of the given one.
pub record IsBroughtOn (i : Instance) (so_far : Reached) (left : Run) : Type 0 where
  pub on : GoesOn i so_far (ended left)
  pub run : (start : List ℕ) → (keeps : Bool) → IsReached i start keeps so_far → IsRunOf i start keeps left
