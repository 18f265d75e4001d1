-- A run that makers of runs continue.
use Rattle.std.proofs.Common.{ℕ, Bool, List, Result, Ok, Err, IfOk}
use Rattle.pop_model.specs.Instances.{Instance}
use Rattle.confluence_core.specs.declared.reached.Reached.{Reached}
use Rattle.confluence_core.specs.declared.run.Run.{Run}
use Rattle.confluence_core.specs.Runs.{IsRunOf, ended}
use Rattle.confluence_core.specs.Stretches.{GoesOn, IsReached}
use Rattle.run_makers.specs.Makers.{IsBroughtOn}

-- what is left went on, and is a run
pub brought : {E : Type 0} (i : Instance) (so_far : Reached) (r : Result Run E)
    → IfOk r (λ left. GoesOn i so_far (ended left))
    → ((start : List ℕ) → (keeps : Bool) → IsReached i start keeps so_far → IfOk r (IsRunOf i start keeps))
    → IfOk r (IsBroughtOn i so_far)
brought i so_far (Ok left) on run = record { on = on; run = run }
brought i so_far (Err e) on run = tt
