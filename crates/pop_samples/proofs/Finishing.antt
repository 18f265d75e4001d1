-- A log that finishes an instance finishes it on other stacks with the same entries below its end, where no event
-- occurs there. Then the one-thread run and all legal logs to ends have its records.
use Rattle.std.proofs.Common.{◌≡◌, ℕ, List, [], replicate, sym, ap, subst, ◌∙◌, arith, Contains}
use Rattle.pop_model.specs.Stacks.{StackTable}
use Rattle.pop_model.specs.Popping.{AreWithin}
use Rattle.pop_model.specs.Instances.{Instance, FamilyFits}
use Rattle.pop_model.specs.Extremal.{IsExtremal}
use Rattle.pop_model.specs.Logs.{LogRecord, IsLegal, replay}
use Rattle.pop_model.specs.Runs.{IsEnd, IsFinished, IsStuckList, IsFirstEnd, start_of}
use Rattle.pop_model.proofs.UniqueEnd.{SameRun, unique_run}
use Rattle.pop_model.proofs.FirstRun.{FirstRunOf, first_run}
use Rattle.pop_model.proofs.OneRun.{first_run_legal}
use Rattle.confluence_core.specs.Laws.{RunsToEnd}
use Rattle.pop_samples.specs.Finishing.{AgreeBelow, FinishesAt, FinishesBy, with_stacks}
use Rattle.pop_samples.specs.Laws.{RunsLike}
use Rattle.pop_model.proofs.Replays.{length-start}
use Rattle.pop_samples.proofs.MovedLogs.{moved_log}

-- it finishes on the other stacks
pub finishes_moved : (i : Instance) (t : StackTable) → FamilyFits i.stacks i.family
    → (log : List LogRecord) (c : List ℕ) → FinishesBy i log c → AgreeBelow c i.stacks t → AreWithin t c
    → IsFinished (with_stacks i t) c → FinishesBy (with_stacks i t) log c
finishes_moved i t fits log c by agree within finished =
    let starts : start_of i ≡ start_of (with_stacks i t) = ap (λ (n : ℕ). replicate n 0) agree.count in
    let legal : IsLegal (with_stacks i t) (start_of i) log =
    moved_log i t fits (start_of i) (length-start i) log (subst (λ d. AgreeBelow d i.stacks t) (sym by.leads) agree)
    (subst (λ d. AreWithin t d) (sym by.leads) within) by.legal in
    record {
      legal = subst (λ d. IsLegal (with_stacks i t) d log) starts legal;
      leads = ap (λ d. replay d log) (sym starts) ∙ by.leads;
      finished = finished;
    }

-- where no event occurs, the stuck list is empty
pub none_stuck : (i : Instance) (c : List ℕ) → IsFinished i c → IsStuckList i c []
none_stuck i c finished = record {
  rising = λ k h. absurd (omega (arith, h));
  exact = λ e. (λ (has : Contains [] e). absurd (omega (arith, has.1)), λ both. absurd (finished e both.0 both.1));
}

-- where no event occurs, none is poppable
pub finished_ends : (i : Instance) (log : List LogRecord) (c : List ℕ) → FinishesBy i log c
    → IsEnd i (replay (start_of i) log)
finished_ends i log c by =
    let end : IsEnd i c = λ e is pop. by.finished e is pop.occurs in subst (IsEnd i) (sym by.leads) end

-- where a log finishes, each run to an end is alike
pub runs_like : (i : Instance) → IsExtremal i.family → (log : List LogRecord) (c : List ℕ) → FinishesBy i log c
    → RunsLike i log c
runs_like i extremal log c by =
    let start : List ℕ = start_of i in
    let end : IsEnd i (replay start log) = finished_ends i log c by in
    let one : FirstRunOf i start log = first_run i extremal start log by.legal end in
    let same : (other : List LogRecord) → RunsToEnd i start other → SameRun start log other = λ other to.
    unique_run i extremal start log other by.legal to.legal end to.end in
    record {
      finishes = by;
      first = record {
        run = (one.first, one.run, sym (one.end ∙ by.leads), sym one.size);
        stuck_list = none_stuck i c by.finished;
      };
      end = λ other to. sym ((same other to).end) ∙ by.leads;
      records = λ other to. (same other to).records;
    }

-- the log of a one-thread run that ends with nothing stuck finishes
pub first_finishes_by : (i : Instance) (c : List ℕ) (n : ℕ) (is : IsFirstEnd i c n []) → FinishesBy i is.run.0 c
first_finishes_by i c n is = record {
  legal = first_run_legal i (start_of i) is.run.0 is.run.1;
  leads = sym is.run.2;
  finished = λ e event occurs.
      let has : Contains [] e = (is.stuck_list.exact e).1 (event, occurs) in absurd (omega (arith, has.1));
}

-- so it finishes there
pub first_finishes : (i : Instance) (c : List ℕ) (n : ℕ) → IsFirstEnd i c n [] → FinishesAt i c
first_finishes i c n is = (is.run.0, first_finishes_by i c n is)
