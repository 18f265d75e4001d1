-- From the run of what is made to the outcome of the job: its end, or its pause.
use Rattle.std.proofs.Common.{inl, inr, ◌≡◌, ◌≢◌, ◌≤◌, ◌<◌, ℕ, Bool, true, false, if◌then◌else◌, List, [], length, Option, None, Some, Result, IfOk, sym, ap, subst, ◌∙◌, arith}
use Rattle.std.proofs.Math.Nat.{eq-or-lt_of_le}
use Rattle.std.proofs.lemmas.Option.{same_Some}
use Rattle.pop_model.specs.Instances.{Instance, IsInstance}
use Rattle.pop_model.specs.Logs.{LogRecord, IsLegal, replay}
use Rattle.pop_model.specs.Runs.{start_of}
use Rattle.pop_log.specs.Layers.{Placed}
use Rattle.pop_log.specs.Layered.{AreSorted}
use Rattle.pop_log.proofs.UnitEvents.{family_cubes}
use Rattle.pop_log.proofs.LayeredLaws.{placed_in_layers}
use Rattle.pop_model.specs.Runs.{IsEnd}
use Rattle.pop_model.specs.Stacks.{variables_of}
use Rattle.pop_model.specs.Popping.{AreWithin}
use Rattle.confluence_core.specs.Stretches.{LeadsOn, IsReached, before_pops, logged}
use Rattle.confluence_core.proofs.Reaching.{leads_keeping}
use Rattle.run_cert.specs.declared.part.Part.{Part}
use Rattle.run_cert.specs.declared.look_kind.Look.TheVariants.{Open}
use Rattle.run_cert.specs.Looks.{HasPoppable, IsSoFar, IsStopped}
use Rattle.pop_model.specs.Extremal.{IsExtremal}
use Rattle.pop_words.specs.declared.command.Command.TheVariants.{Resample}
use Rattle.pop_words.specs.declared.job.Job.{Job}
use Rattle.pop_watch.specs.Telling.{Watcher}
use Rattle.pop_print.specs.declared.facts.Facts.{Facts}
use Rattle.told_runs.specs.declared.asked.Asked.{Asked}
use Rattle.told_runs.specs.Outcomes.{Outcome, AnswersBy}
use Rattle.told_runs.specs.Ends.{IsEndOf, IsHistoryOf}
use Rattle.job_subjects.specs.Made.{IsMade}
use Rattle.top_call.specs.Pauses.{IsPause, IsPausedAt, MayStop}
use Rattle.told_runs.specs.Asking.{asked_by}
use Rattle.top_call.specs.Answers.{wanted_by, ComesOf}
use Rattle.job_subjects.specs.declared.answer.Answer.{Answer}
use Rattle.top_call.proofs.Carrying.{answers_more}
use Rattle.top_call.proofs.Lifting.{ordered_by}
use Rattle.top_call.proofs.MadeComes.{ended_comes, ends_as}
use Rattle.top_call.proofs.PauseWords.{paused_no_rounds}
use Rattle.top_call.proofs.ReadCases.{run_comes}
use Rattle.told_runs.proofs.ToldRuns.{in_order, placed_size}

-- a run that has no fewer pops than it may have has so many
pub full : (n pops : ℕ) → n ≤ pops → (n < pops → ⊥) → n ≡ pops
full n pops most never = elim (eq-or-lt_of_le most) [
  | inl same ↦ same
  | inr less ↦ absurd (never less)
]

-- the layered order of a legal log behind which an event is poppable is a pause
pub pause_of : (i : Instance) → IsInstance i → (log : List LogRecord) (placed : List Placed)
    → IsLegal i (start_of i) log → AreSorted log placed → HasPoppable i (replay (start_of i) log)
    → IsPause i (length log) placed
pause_of i is log placed legal sorted still =
    let of = in_order i is log placed legal sorted in
    record {
      legal = of.0;
      layered = placed_in_layers i (family_cubes i.family is.family) (start_of i) log legal placed sorted;
      count = sym (placed_size log placed sorted);
      poppable = subst (HasPoppable i) (sym of.1) still;
    }

-- a run so far that is open
pub open_part : (i : Instance) (limit : ℕ) (part : Part) → IsStopped i limit part → part.seen.look ≡ Open
    → HasPoppable i (replay (start_of i) part.log)
open_part i limit part stopped is =
    let leads = stopped.run.leads in
    subst (HasPoppable i) (leads.cursors_are ∙ ap (replay (start_of i)) (sym (same_Some _ _ leads.log_is)))
    (stopped.run.seen.look.open_is.0 is)

-- it has as many pops as it may have
pub full_part : (i : Instance) (limit pops : ℕ) (part : Part) → IsStopped i limit part → limit ≡ pops
    → part.seen.look ≡ Open → length part.log ≡ pops
full_part i limit pops part stopped same is =
    full (length part.log) limit stopped.most (λ less. stopped.fewer less is) ∙ same

-- a run so far, at an end
pub ended_part : (i : Instance) (part : Part) (keeps : Bool) (pops : ℕ) (kept : Option (List LogRecord))
    → IsSoFar i part → IsEnd i part.cursors → variables_of i.stacks ≡ length part.cursors
    → AreWithin i.stacks part.cursors → pops ≡ length part.log → kept ≡ (if keeps then Some part.log else None)
    → IsReached i (start_of i) keeps (record { cursors = part.cursors; pops = pops; log = kept; suspects = [] })
ended_part i part keeps pops kept so_far end count within pops_are kept_is = record {
  leads = subst (λ (n : ℕ). LeadsOn i (before_pops (start_of i) keeps)
      (record { cursors = part.cursors; pops = n; log = kept; suspects = [] })) (sym pops_are)
      (leads_keeping i (start_of i) keeps (logged part.cursors part.log) kept [] kept_is so_far.leads);
  can = record {
    count = count;
    within = within;
    units = λ k d below. absurd (omega (arith, below));
    suspects = λ e is poppable. absurd (end e is poppable);
  };
}

-- a pause of what is made comes of the job
paused_comes : (job : Job) (ws : List Watcher) (text : List ℕ) (facts : Facts) (i : Instance) (pops : ℕ)
    → IsMade (wanted_by job) text facts i → MayStop job → job.pops ≡ Some pops
    → (o : Outcome) → IsPausedAt job text facts i pops o → ComesOf job ws text o
paused_comes job ws text facts i pops made may stop o at =
    run_comes job ws text o (record {
      facts = facts;
      instance = i;
      made = made;
      run = inr (record { may = may; pops = pops; asked = stop; at = at });
    })

pub paused_result : {E : Type 0} (job : Job) (ws : List Watcher) (text : List ℕ) (facts : Facts) (i : Instance)
    (n pops : ℕ) (r : Result Answer E) → IsMade (wanted_by job) text facts i → MayStop job → job.pops ≡ Some pops
    → n ≡ pops → IfOk r (λ a. AnswersBy (IsPausedAt job text facts i n) a.status a.text.items)
    → IfOk r (λ a. AnswersBy (ComesOf job ws text) a.status a.text.items)
paused_result job ws text facts i n pops r made may stop same told =
    answers_more (IsPausedAt job text facts i pops) (ComesOf job ws text) r
    (paused_comes job ws text facts i pops made may stop)
    (subst (λ k. IfOk r (λ a. AnswersBy (IsPausedAt job text facts i k) a.status a.text.items)) same told)

-- what is told of an end of one run, which is that of an extremal instance where the order of pops isn't free
pub ended_result : {E : Type 0} (job : Job) (ws : List Watcher) (text : List ℕ) (facts : Facts) (i : Instance)
    (asked : Asked) (r : Result Answer E) → IsMade (wanted_by job) text facts i → asked ≡ asked_by job
    → MayStop job → (job.command ≢ Resample → IsExtremal i.family)
    → (asked.free ≡ false → asked.count ≡ None → IsExtremal i.family
    → IfOk r (λ a. AnswersBy (IsEndOf asked ws facts i) a.status a.text.items))
    → (asked.free ≡ true → IfOk r (λ a. AnswersBy (IsHistoryOf asked ws facts i) a.status a.text.items))
    → IfOk r (λ a. AnswersBy (ComesOf job ws text) a.status a.text.items)
ended_result job ws text facts i asked r made asks may extremal ended history =
    ended_comes job ws text facts i r made
    (ends_as job ws facts i asked r (paused_no_rounds job.command may.command) asks
    (λ free. ended free (ap (λ (q : Asked). q.count) asks ∙ may.once)
    (extremal (ordered_by job asked asks free))) history)
