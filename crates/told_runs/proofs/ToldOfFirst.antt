-- What is printed for any run of an extremal instance to an end is printed for the one-thread run, since all such runs
-- have one layered log.
use Rattle.std.proofs.Common.{◌≡◌, List, subst}
use Rattle.pop_model.specs.Instances.{Instance}
use Rattle.pop_model.specs.Extremal.{IsExtremal}
use Rattle.pop_model.specs.Logs.{LogRecord}
use Rattle.pop_model.specs.Runs.{IsFirstRun, start_of}
use Rattle.pop_model.proofs.OneRun.{first_run_legal, first_run_ends}
use Rattle.confluence_core.specs.Laws.{RunsToEnd}
use Rattle.pop_log.specs.declared.names.Names.{Names}
use Rattle.pop_log.specs.Layers.{Placed}
use Rattle.pop_log.specs.Layered.{AreSorted}
use Rattle.pop_log.proofs.UnitEvents.{HaveCubes}
use Rattle.pop_log.proofs.LayeredLaws.{one_layered_log}
use Rattle.pop_watch.specs.Telling.{Watcher}
use Rattle.told_runs.specs.declared.asked.Asked.{Asked}
use Rattle.told_runs.specs.Tellings.{Telling, IsToldOf}
use Rattle.told_runs.specs.Ends.{IsToldOfFirst}
use Rattle.told_runs.proofs.LayeredOrders.{layered_order}

-- the one-thread run goes to an end
pub first_runs : (i : Instance) (log : List LogRecord) → IsFirstRun i (start_of i) log → RunsToEnd i (start_of i) log
first_runs i log run =
    record { legal = first_run_legal i (start_of i) log run; end = first_run_ends i (start_of i) log run }

-- the layered order of any run to an end is that of the one-thread run
pub sorted_first : (i : Instance) → HaveCubes i.family → IsExtremal i.family → (log first : List LogRecord)
    → RunsToEnd i (start_of i) log → IsFirstRun i (start_of i) first → (placed : List Placed) → AreSorted log placed
    → AreSorted first placed
sorted_first i cubes extremal log first runs run placed sorted =
    let other = layered_order first in
    let one : other.0 ≡ placed =
    one_layered_log i cubes extremal (start_of i) first log (first_runs i first run) runs other.0 placed other.1 sorted in
    subst (AreSorted first) one other.1

-- so what is told of any run to an end is told of the one-thread run
pub told_of_first : (asked : Asked) (ws : List Watcher) (names : Names) (i : Instance) → HaveCubes i.family
    → IsExtremal i.family → (log first : List LogRecord) → RunsToEnd i (start_of i) log
    → IsFirstRun i (start_of i) first → (placed : List Placed) → AreSorted log placed → (t : Telling)
    → IsToldOf asked ws names i placed t → IsToldOfFirst asked ws names i t
told_of_first asked ws names i cubes extremal log first runs run placed sorted t told =
    record {
      log = first;
      run = run;
      placed = placed;
      sorted = sorted_first i cubes extremal log first runs run placed sorted;
      told = told;
    }
