-- The subject of an input is the formula or the graph as which it is parsed, so inputs that are parsed alike have one
-- subject.
use Rattle.std.proofs.Common.{inl, inr, ◌≡◌, ◌⊎◌, ℕ, List, None, sym, subst, ◌∙◌}
use Rattle.std.proofs.lemmas.Option.{none-some}
use Rattle.pop_words.specs.declared.command.Command.{Command}
use Rattle.pop_words.specs.declared.command.Command.TheVariants.{Formula, Orient, Tree, Resample, Make, Rounds}
use Rattle.pop_words.specs.declared.job.Job.{Job}
use Rattle.pop_watch.specs.Telling.{Watcher}
use Rattle.job_subjects.specs.Made.{IsMade}
use Rattle.job_subjects.specs.Subjects.{IsSubjectOf, Subject}
use Rattle.job_subjects.specs.declared.wanted.Wanted.{Wanted}
use Rattle.pop_model.specs.Instances.{Instance}
use Rattle.pop_print.specs.declared.facts.Facts.{Facts}
use Rattle.told_runs.specs.Outcomes.{Outcome, status_of}
use Rattle.told_runs.specs.Outcomes.Outcome.{Refused, Extremal}
use Rattle.top_call.specs.Answers.{ComesOf, ComesOfRun, wanted_by}
use Rattle.top_call.proofs.ByCommand.{by_line}
use Rattle.top_call.proofs.Lifting.{of_words}
use Rattle.answer_laws.specs.SameReading.{IsReadAs, SameReading}
use Rattle.answer_laws.proofs.OneOutcome.{line_comes}
use Rattle.answer_laws.proofs.RefusedOr.{refusal_not_low}

module _ (text other : List ℕ) (alike : IsReadAs text other) where
  -- the same is sampled of both texts
  subject_too : (k : Command) (w : Wanted) (s : Subject) → IsSubjectOf k w text s → IsSubjectOf k w other s
  subject_too Formula w s is =
      record { formula = is.formula; spelled = alike.formulas is.formula is.spelled; are = is.are }
  subject_too Orient w s is = record { graph = is.graph; spelled = alike.graphs is.graph is.spelled; are = is.are }
  subject_too Tree w s is = record { graph = is.graph; spelled = alike.graphs is.graph is.spelled; are = is.are }
  subject_too Resample w s is =
      record { formula = is.formula; spelled = alike.formulas is.formula is.spelled; are = is.are }
  subject_too Make w s is = is
  subject_too Rounds w s is =
      record { formula = is.formula; spelled = alike.formulas is.formula is.spelled; are = is.are }
  subject_too k w s is = absurd is

  -- so the same is made of both
  made_too : (w : Wanted) (facts : Facts) (i : Instance) → IsMade w text facts i → IsMade w other facts i
  made_too w facts i made =
      record { subject = made.subject; are = subject_too w.command w made.subject made.are; over = made.over }

  module _ (job : Job) (never : job.pops ≡ None) (ws : List Watcher) where
    -- and the same runs are made
    run_too : (o : Outcome) → ComesOfRun job ws text o → ComesOfRun job ws other o
    run_too o h = record {
      facts = h.facts;
      instance = h.instance;
      made = made_too (wanted_by job) h.facts h.instance h.made;
      run = elim h.run [
        | inl end ↦ inl end
        | inr pause ↦ absurd (none-some pause.pops (sym never ∙ pause.asked))
      ];
    }

    -- so what comes of the one comes of the other
    comes_too : (o : Outcome) → (status_of o ≡ 0) ⊎ (status_of o ≡ 1) → ComesOf job ws text o → ComesOf job ws other o
    comes_too (Refused r) low h = absurd (refusal_not_low r low)
    comes_too (Extremal n) low (check, verdict) = (
      check,
      record {
        formula = verdict.formula;
        spelled = alike.formulas verdict.formula verdict.spelled;
        verdict = verdict.verdict;
      },
    )
    comes_too o low h = run_too o h

-- the law
pub same_reading : SameReading
same_reading job words ws text other out status asks line never alike (o, outcome, tells) low = (
  o,
  of_words words job ws other asks o (by_line job.command job ws other o line (comes_too text other alike job never ws o
      (subst (λ n. (n ≡ 0) ⊎ (n ≡ 1)) tells.status_is low) (line_comes words job ws text o asks line outcome))),
  tells,
)
