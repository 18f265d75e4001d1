-- The layered log of the one-thread run is a legal log to the same end, in layered order. So it is a history of
-- `resample` for the formula, which prints the same.
use Rattle.std.proofs.Common.{inl, inr, ◌≡◌, ℕ, ◌≤◌, true, false, cond, List, length, Contains, refl, sym, ap, ap₂, subst, ◌∙◌, arith}
use Rattle.std.proofs.lemmas.Bool.{cases_Bool, false≢true}
use Rattle.std.proofs.lemmas.Option.{none-some}
use Rattle.pop_model.specs.Extremal.{IsExtremal}
use Rattle.pop_model.specs.Families.{Event}
use Rattle.pop_model.specs.Instances.{Instance, IsInstance}
use Rattle.pop_model.specs.Logs.{LogRecord, replay}
use Rattle.pop_model.specs.Runs.{IsEnd, IsStuckList, start_of}
use Rattle.confluence_core.specs.Laws.{RunsToEnd}
use Rattle.drawn_samples.proofs.FirstRuns.{one_first_log}
use Rattle.pop_words.specs.declared.command.Command.TheVariants.{Resample}
use Rattle.pop_words.specs.declared.job.Job.{Job}
use Rattle.pop_words.specs.Options.{quiet}
use Rattle.pop_log.specs.Layers.{Placed}
use Rattle.pop_log.proofs.LayeredLaws.{layered_is_legal, placed_in_layers}
use Rattle.pop_log.proofs.UnitEvents.{family_cubes}
use Rattle.pop_watch.specs.Telling.{Watcher}
use Rattle.pop_print.specs.declared.facts.Facts.{Facts}
use Rattle.job_subjects.specs.Made.{IsMade}
use Rattle.job_subjects.specs.Subjects.{AreAssignments, IsOfCnf, IsSubjectOf, Subject, instance_over}
use Rattle.told_runs.specs.Asking.{asked_by}
use Rattle.told_runs.specs.Ends.{EndsWithin}
use Rattle.told_runs.specs.Names.{names_for}
use Rattle.told_runs.specs.Outcomes.{Outcome, Tells, end_status, resampled_status, run_text, status_of}
use Rattle.told_runs.specs.Outcomes.Outcome.{Ended, Resampled}
use Rattle.told_runs.specs.Tellings.{IsToldOf, LeadsToEnd, Telling, records_of}
use Rattle.told_runs.specs.Witnesses.{is_missing}
use Rattle.told_runs.proofs.ToldOfFirst.{first_runs}
use Rattle.told_runs.proofs.ToldRuns.{placed_size}
use Rattle.top_call.specs.Answers.{ComesOf, IsOfLine, origin_for, wanted_by}
use Rattle.top_call.proofs.ByCommand.{by_line}
use Rattle.top_call.proofs.Lifting.{of_words}
use Rattle.top_call.proofs.MadeComes.{end_comes}
use Rattle.answer_laws.specs.ResampleLikeFormula.{AskToResample, IsPrintedToo, ResampleLikeFormula}
use Rattle.answer_laws.proofs.KeyAnswers.{of_low}
use Rattle.answer_laws.proofs.MadeBounds.{job_short, made_bounded}
use Rattle.answer_laws.proofs.OneOutcome.{line_comes}
use Rattle.answer_laws.proofs.ToldSubjects.{IsEndOfSubject, one_is_made, ordered_extremal, quiet_line}

-- assignments whose events don't clash are assignments
may_clash : (text : List ℕ) (s : Subject) → IsOfCnf (AreAssignments false) text s → IsOfCnf (AreAssignments true) text s
may_clash text s is = record {
  formula = is.formula;
  spelled = is.spelled;
  are = record {
    events = is.are.events;
    of_formula = is.are.of_formula;
    extremal = λ no. absurd (false≢true (sym no));
    is = is.are.is;
  };
}

module _ (words others : List (List ℕ)) (ws : List Watcher) (text out : List ℕ) (status : ℕ)
    (d : AskToResample words others) where
  -- the job of the resampling
  abbrev other : Job
  other = record d.job { command = Resample }

  -- the end is one of it
  end_too : (facts : Facts) (k : Instance) (c : List ℕ) (pops : ℕ) (stuck : List Event) (a : Telling)
      → IsEndOfSubject d.job ws text facts k c pops stuck a → Tells (Ended facts k c pops stuck a) status out
      → IsPrintedToo others ws text status out
  end_too facts k c pops stuck a of tells =
      let s : Subject = of.subject in
      let i : Instance = instance_over (origin_for d.job) s in
      let start : List ℕ = start_of i in
      let placed : List Placed = of.told.placed in
      let log : List LogRecord = of.told.log in
      let extremal : IsExtremal i.family = ordered_extremal d.job.command (wanted_by d.job) text s of.ordered of.is in
      let made : IsMade (wanted_by d.job) text s.facts i =
      one_is_made (wanted_by d.job) text s d.once of.is of.sound in
      let is : IsInstance i =
      (made_bounded (wanted_by d.job) text s.facts i (job_short words d.job d.asks) made).0 in
      let run : RunsToEnd i start log = first_runs i log of.told.run in
      let layered = layered_is_legal i (family_cubes i.family is.family) start log (records_of placed) run.legal
      (record { placed = placed; sorted = of.told.sorted; records = refl }) in
      let one : of.end.run.0 ≡ log = one_first_log i extremal start (of.end.run.0) log of.end.run.1 of.told.run in
      let cursors : c ≡ replay start (records_of placed) =
      of.end.run.2 ∙ ap (replay start) one ∙ sym layered.1 in
      let size : pops ≡ length placed =
      of.end.run.3 ∙ ap (λ (l : List LogRecord). length l) one ∙ placed_size log placed of.told.sorted in
      let leads : LeadsToEnd i (records_of placed) stuck = record {
        legal = layered.0;
        end = subst (IsEnd i) (sym layered.1) run.end;
        stuck_list = subst (λ (e : List ℕ). IsStuckList i e stuck) cursors of.end.stuck_list;
      } in
      let told : IsToldOf (asked_by other) ws (names_for s.facts) i placed a = record {
        log_is = of.told.told.log_is;
        witness_is = of.told.told.witness_is;
        reports_are = of.told.told.reports_are;
      } in
      let o : Outcome = Resampled s.facts i placed stuck a in
      let subject : IsSubjectOf Resample (wanted_by other) text s =
      may_clash text s (subst (λ k. IsSubjectOf k (wanted_by d.job) text s) d.samples of.is) in
      let comes : ComesOf other ws text o =
      end_comes other Resample ws text s.facts i refl (one_is_made (wanted_by other) text s d.once subject of.sound) o (
        refl,
        refl,
        leads,
        placed_in_layers i (family_cubes i.family is.family) start log run.legal placed of.told.sorted,
        told,
        subst (EndsWithin d.job.pops) size of.within,
      ) in
      let comes' : ComesOf d.other ws text o = subst (λ j. ComesOf j ws text o) d.same comes in
      let line : IsOfLine d.other.command = subst (λ (j : Job). IsOfLine j.command) d.same tt in
      record {
        own = resampled_status stuck a.witness;
        answer = (
          o,
          of_words others d.other ws text d.asks_other o (by_line d.other.command d.other ws text o line comes'),
          record {
            status_is = refl;
            out_is = tells.out_is
                ∙ ap₂ (λ (f : Facts) (m : Instance). run_text f m c pops stuck a) of.facts_are of.instance_is
                ∙ ap₂ (λ (e : List ℕ) (n : ℕ). run_text s.facts i e n stuck a) cursors size;
          },
        );
        statuses = elim (cases_Bool (is_missing a.witness)) [
          | inl missing ↦ inr (ap (λ b. cond b 6 (end_status stuck)) missing)
          | inr there ↦ inl (ap (λ b. cond b 6 (end_status stuck)) there ∙ sym tells.status_is)
        ];
      }

-- the law
pub resample_like_formula : ResampleLikeFormula
resample_like_formula words others ws text out status d (o, outcome, tells) low =
    let has : Contains quiet d.job.command = subst (Contains quiet) (sym d.samples) (0, omega arith, refl) in
    of_low d.job has ws text (λ q. Tells q status out → IsPrintedToo others ws text status out)
    (end_too words others ws text out status d)
    (λ facts k ends of tells. absurd (none-some of.batch.count (sym d.once ∙ of.batch.asked_is))) o
    (line_comes words d.job ws text o d.asks (quiet_line d.job.command has) outcome) at_most tells
  where
    at_most : status_of o ≤ 1
    at_most = elim low [
      | inl zero ↦ (let is = tells.status_is in omega (arith, is, zero))
      | inr one ↦ (let is = tells.status_is in omega (arith, is, one))
    ]
