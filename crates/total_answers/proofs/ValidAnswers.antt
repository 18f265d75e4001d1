-- Where nothing stands against a job and a text, each answer has the status of a run, or tells that the pop is missing
-- whose witness is asked for: none is missing where none is asked for.
use Rattle.std.proofs.Common.{inl, inr, ◌≡◌, ◌⊎◌, ℕ, true, if◌then◌else◌, List, Option, None, refl, ap, subst, ◌∙◌}
use Rattle.std.proofs.lemmas.Bool.{cases_Bool, false≢true}
use Rattle.pop_log.specs.declared.names.Names.{Names}
use Rattle.pop_log.specs.Layers.{Placed}
use Rattle.pop_model.specs.Families.{Event}
use Rattle.pop_model.specs.Instances.{Instance}
use Rattle.pop_model.specs.Logs.{LogRecord}
use Rattle.pop_print.specs.declared.facts.Facts.{Facts}
use Rattle.pop_words.specs.declared.job.Job.{Job}
use Rattle.pop_words.specs.CommandLines.{Asks}
use Rattle.pop_watch.specs.Telling.{Watcher}
use Rattle.told_runs.specs.Outcomes.{Outcome, end_status, status_of}
use Rattle.told_runs.specs.Outcomes.Outcome.{Resampled}
use Rattle.told_runs.specs.Tellings.{Telling}
use Rattle.told_runs.specs.Witnesses.{Witness, IsWitness, is_missing}
use Rattle.told_runs.specs.Witnesses.Witness.{Unasked}
use Rattle.top_call.specs.Answers.{ComesOf, IsOutcome}
use Rattle.top_call.specs.Replays.{job_of}
use Rattle.top_call.proofs.ByCommand.{by_kind}
use Rattle.answer_laws.specs.Complete.{HasWitness}
use Rattle.answer_laws.proofs.Finished.{all_done}
use Rattle.answer_laws.proofs.OneOutcome.{asked_comes}
use Rattle.answer_laws.proofs.ToldSubjects.{resampled_made}
use Rattle.total_answers.specs.Totality.{ValidAnswered}
use Rattle.total_answers.proofs.Answered.{always_answered}

-- where no witness is asked for, none is missing
none_missing : (names : Names) (asked : Option (ℕ × ℕ)) (cursors : List ℕ) (log : List LogRecord) (w : Witness)
    → asked ≡ None → IsWitness names asked cursors log w → is_missing w ≡ true → ⊥
none_missing names asked cursors log w none is missing =
    by w (subst (λ a. IsWitness names a cursors log w) none is) missing
  where
    by : (w : Witness) → IsWitness names None cursors log w → is_missing w ≡ true → ⊥
    by Unasked is missing = false≢true missing
    by w is missing = absurd is

-- so it is with a run that is resampled by a line
line_missing : (job : Job) (ws : List Watcher) (text : List ℕ) (facts : Facts) (i : Instance) (placed : List Placed)
    (stuck : List Event) (t : Telling) → ComesOf job ws text (Resampled facts i placed stuck t)
    → job.witness ≡ None → is_missing t.witness ≡ true → ⊥
line_missing job ws text facts i placed stuck t comes none missing =
    let told = (resampled_made job ws text facts i placed stuck t comes).told in
    none_missing _ job.witness _ _ t.witness none told.witness_is missing

module _ (words : List (List ℕ)) (job : Job) (asks : Asks words job) (ws : List Watcher) (text : List ℕ) where
  -- and by words
  word_missing : (facts : Facts) (i : Instance) (placed : List Placed) (stuck : List Event) (t : Telling)
      → IsOutcome words ws text (Resampled facts i placed stuck t) → job.witness ≡ None
      → is_missing t.witness ≡ true → ⊥
  word_missing facts i placed stuck t is none missing =
      let o : Outcome = Resampled facts i placed stuck t in
      elim (by_kind job.command job ws text o (asked_comes words job ws text o asks is)) [
        | inl (line, comes) ↦ line_missing job ws text facts i placed stuck t comes none missing
        | inr (inl (replays, comes)) ↦ absurd (let told = comes.comes.is.told in cc)
        | inr (inr (resumes, comes)) ↦
            line_missing (job_of comes.cert.head) ws comes.cert.input facts i placed stuck t comes.comes.comes refl
            missing
      ]

  -- an outcome has its witness, or tells with status 6 that it is missing
  witness_or_missing : (o : Outcome) → IsOutcome words ws text o
      → HasWitness o ⊎ ((status_of o ≡ 6) × (job.witness ≡ None → ⊥))
  witness_or_missing (Resampled facts i placed stuck t) is = elim (cases_Bool (is_missing t.witness)) [
    | inr there ↦ inl there
    | inl missing ↦ inr (
      ap (λ b. if b then 6 else end_status stuck) missing,
      λ none. word_missing facts i placed stuck t is none missing,
    )
  ]
  witness_or_missing o is = inl tt

-- the law
pub valid_answered : ValidAnswered
valid_answered words ws text job asks can = record {
  some = always_answered words ws text;
  each = λ status out (o, is, tells). elim (witness_or_missing words job asks ws text o is) [
    | inl has ↦ inl (all_done words ws text job status out asks can (o, (is, has), tells))
    | inr (missing, asked) ↦ inr (tells.status_is ∙ missing, asked)
  ];
}
