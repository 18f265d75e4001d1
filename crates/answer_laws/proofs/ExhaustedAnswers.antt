-- An end at which an event occurs is the only end of all runs, so no log leads to a sample. An end at which none
-- occurs is reached by its own log.
use Rattle.std.proofs.Common.{inl, inr, ◌≡◌, ◌↔◌, ℕ, List, [], ◌∷◌, slice_get, Some, refl, sym, subst, arith}
use Rattle.pop_model.specs.Extremal.{IsExtremal}
use Rattle.pop_model.specs.Families.{Event}
use Rattle.pop_model.specs.Instances.{Instance, instance_for}
use Rattle.pop_model.specs.Logs.{LogRecord, replay}
use Rattle.pop_model.specs.Popping.{Occurs}
use Rattle.pop_model.specs.Runs.{IsFirstEnd, IsStuckList, start_of}
use Rattle.pop_model.proofs.Rising.{head_member, none_in}
use Rattle.pop_model.proofs.UniqueEnd.{unique_run}
use Rattle.confluence_core.specs.declared.end.End.{End}
use Rattle.confluence_core.specs.Laws.{RunsToEnd}
use Rattle.pop_words.specs.declared.job.Job.{Job}
use Rattle.pop_watch.specs.Telling.{Watcher}
use Rattle.pop_print.specs.declared.facts.Facts.{Facts}
use Rattle.told_runs.specs.Batches.{batch_status}
use Rattle.told_runs.specs.Outcomes.{end_status, status_of}
use Rattle.told_runs.specs.Tellings.{Telling}
use Rattle.told_runs.proofs.ToldOfFirst.{first_runs}
use Rattle.top_call.specs.Answers.{wanted_by}
use Rattle.top_call.proofs.BatchEnds.{a_stuck_one, batch_low, unstuck}
use Rattle.answer_laws.specs.ExhaustedAnswers.{ExhaustedAnswers, HasNoSample, IsExhausted, MissesSample}
use Rattle.answer_laws.proofs.KeyAnswers.{of_low}
use Rattle.answer_laws.proofs.OneOutcome.{line_comes}
use Rattle.answer_laws.proofs.ToldSubjects.{IsBatchOfSubject, IsEndOfSubject, ordered_extremal, quiet_line}

-- an end has a stuck event exactly if no log leads to a sample
stuck_exactly : (i : Instance) → IsExtremal i.family → (c : List ℕ) (pops : ℕ) (stuck : List Event)
    → IsFirstEnd i c pops stuck → (end_status stuck ≡ 1) ↔ HasNoSample i
stuck_exactly i extremal c pops stuck end =
    let log : List LogRecord = end.run.0 in
    let run : RunsToEnd i (start_of i) log = first_runs i log end.run.1 in
    let list : IsStuckList i (replay (start_of i) log) stuck =
    subst (λ (d : List ℕ). IsStuckList i d stuck) end.run.2 end.stuck_list in
    (λ one. none log run stuck list one, λ never. some log run stuck list never)
  where
    none : (log : List LogRecord) → RunsToEnd i (start_of i) log → (stuck : List Event)
        → IsStuckList i (replay (start_of i) log) stuck → end_status stuck ≡ 1 → HasNoSample i
    none log run [] list one can = absurd (omega (arith, one))
    none log run (e ∷ rest) list one (other, legal, finished) =
        let same = unique_run i extremal (start_of i) log other run.legal legal run.end
        (λ e is pop. finished e is pop.occurs) in
        let there = (list.exact e).0 (head_member e rest) in
        finished e there.0 (subst (λ d. Occurs i.stacks d e.cube) same.end there.1)

    some : (log : List LogRecord) → RunsToEnd i (start_of i) log → (stuck : List Event)
        → IsStuckList i (replay (start_of i) log) stuck → HasNoSample i → end_status stuck ≡ 1
    some log run [] list never =
        absurd (never (log, run.legal, λ e is occurs. none_in e ((list.exact e).1 (is, occurs))))
    some log run (e ∷ rest) list never = refl

module _ (job : Job) (ws : List Watcher) (text : List ℕ) where
  -- an end
  end_exactly : (facts : Facts) (i : Instance) (c : List ℕ) (pops : ℕ) (stuck : List Event) (a : Telling)
      → IsEndOfSubject job ws text facts i c pops stuck a → (end_status stuck ≡ 1) ↔ HasNoSample i
  end_exactly facts i c pops stuck a of =
      let extremal : IsExtremal of.subject.family =
      ordered_extremal job.command (wanted_by job) text of.subject of.ordered of.is in
      subst (λ (j : Instance). (end_status stuck ≡ 1) ↔ HasNoSample j) (sym of.instance_is)
      (stuck_exactly _ extremal c pops stuck of.end)

  -- a batch
  batch_exactly : (facts : Facts) (i : Instance) (ends : List End) → IsBatchOfSubject job text facts i ends
      → (batch_status ends ≡ 1) ↔ MissesSample i ends
  batch_exactly facts i ends of =
      let extremal : IsExtremal of.subject.family =
      ordered_extremal job.command (wanted_by job) text of.subject of.ordered of.is in
      let each : (j : ℕ) (end : End) → slice_get ends j ≡ Some end
      → (end_status end.stuck ≡ 1) ↔ HasNoSample (instance_for j i) =
      λ j end at.
      subst (λ (k : Instance). (end_status end.stuck ≡ 1) ↔ HasNoSample (instance_for j k)) (sym of.instance_is)
      (stuck_exactly _ extremal end.cursors end.pops end.stuck (of.batch.are.each j end at).first) in (
        λ one.
            let (j, end, at, stuck) = a_stuck_one ends one in
            record { sample = j; end = end; is = at; none = (each j end at).0 stuck },
        λ misses. elim (batch_low ends) [
          | inl zero ↦
              let low = unstuck ends misses.sample misses.end zero misses.is in
              let high = (each misses.sample misses.end misses.is).1 misses.none in
              absurd (omega (arith, low, high))
          | inr one ↦ one
        ],
      )

-- the law
pub exhausted_answers : ExhaustedAnswers
exhausted_answers job words ws text o has asks comes low =
    of_low job has ws text (λ q. (status_of q ≡ 1) ↔ IsExhausted q) (end_exactly job ws text) (batch_exactly job ws text) o
    (line_comes words job ws text o asks (quiet_line job.command has) comes) low
