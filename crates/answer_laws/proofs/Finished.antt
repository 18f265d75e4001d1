-- At the end of a run with status 0 no event occurs: an event that occurs would be in the stuck list. If a command can
-- be done on an input, each outcome is an end or a verdict, since every other outcome would contradict this.
use Rattle.std.proofs.Common.{inl, inr, ◌≡◌, ℕ, List, [], ◌∷◌, refl, sym, ap, subst, ◌∙◌, arith, ◌⊎◌, false, true, length, Ok, None}
use Rattle.std.proofs.lemmas.Option.{none-some}
use Rattle.pop_model.specs.Families.{Event}
use Rattle.pop_model.specs.Instances.{Instance, instance_for}
use Rattle.pop_model.specs.Logs.{LogRecord, replay}
use Rattle.pop_model.specs.Runs.{IsFinished, IsStuckList, start_of}
use Rattle.pop_words.specs.declared.job.Job.{Job}
use Rattle.pop_words.specs.declared.command.Command.{Command}
use Rattle.pop_words.specs.declared.command.Command.TheVariants.{Formula, Orient, Tree, Resample, Check, Make, Rounds, Replay, Resume}
use Rattle.dimacs_read.specs.Cnf.{Cnf}
use Rattle.dimacs_read.specs.CnfText.{AnswersCnf}
use Rattle.dimacs_read.proofs.GrammarLaw.{complete}
use Rattle.graph_read.specs.Grids.{grid_of}
use Rattle.cycle_popping.specs.Trees.{weights_of_tree}
use Rattle.pop_watch.specs.Telling.{Watcher}
use Rattle.run_cert.specs.declared.look_kind.Look.{Look}
use Rattle.run_cert.specs.declared.look_kind.Look.TheVariants.{Finished, Exhausted, Open}
use Rattle.pop_print.specs.declared.facts.Facts.TheVariants.{Made as MadeFacts}
use Rattle.job_subjects.specs.declared.refusal.Refusal.{Refusal}
use Rattle.job_subjects.specs.Subjects.{pair_weights}
use Rattle.job_subjects.specs.Refused.{IsClashing, RefusesFormula, RefusesOrienting, RefusesTree, RefusesBy, RefusesText}
use Rattle.told_runs.specs.Witnesses.{Witness, is_missing}
use Rattle.told_runs.specs.Witnesses.Witness.{Unasked, Missing, Shown}
use Rattle.told_runs.specs.Tellings.{records_of}
use Rattle.told_runs.specs.Outcomes.{Outcome, status_of, end_status, resampled_status}
use Rattle.told_runs.specs.Outcomes.Outcome.{Ended, Resampled, Rounded, Batched, Replayed, Refused, Extremal, Paused}
use Rattle.told_runs.specs.ReplayTexts.{look_status}
use Rattle.told_runs.specs.Batches.{batch_status}
use Rattle.top_call.specs.Replays.{job_of, IsReplay, ComesOfReplaying}
use Rattle.top_call.specs.Answers.{ComesOf, IsOutcome, origin_for, wanted_by}
use Rattle.top_call.proofs.BatchEnds.{batch_of, unstuck, batch_low}
use Rattle.top_call.proofs.ByCommand.{by_kind}
use Rattle.top_call.proofs.ReadCases.{no_replay}
use Rattle.top_call.specs.Resumes.{GoesOnFrom, ComesOfResuming}
use Rattle.top_call.proofs.BatchWords.{is_batched, uncounted}
use Rattle.answer_laws.specs.Laws.{EndsFinished}
use Rattle.answer_laws.proofs.ToldSubjects.{ended_subject, resampled_made, rounded_made, paused_made}
use Rattle.answer_laws.proofs.OneOutcome.{word_cases, asked_comes}
use Rattle.answer_laws.proofs.RefusedOr.{replaying_cases, resuming_cases}
use Rattle.answer_laws.specs.Complete.{Spells, CanBeReplayed, CanBeDone, HasWitness, Complete, IsDone}
use Rattle.answer_laws.proofs.MadeBounds.{legal_log}
use Rattle.answer_laws.proofs.OneRefusal.{cnf_unrefused, graph_unrefused}
use Rattle.answer_laws.proofs.OneReplay.{accepted_or_refused}
use Rattle.answer_laws.proofs.RefusedStacks.{no_count_few, sound_unrefused}
use Rattle.answer_laws.proofs.RefusedSubjects.{no_clash, formula_unrefused, orienting_unrefused, tree_unrefused}
use Rattle.graph_read.proofs.GrammarLaw as graphs

-- ---- no event occurs

-- an end with an empty stuck list
pub finished : (i : Instance) (c : List ℕ) (stuck : List Event) → IsStuckList i c stuck → end_status stuck ≡ 0
    → IsFinished i c
finished i c [] list none =
    λ e event occurs. let (k, within, at) = (list.exact e).1 (event, occurs) in absurd (omega arith)
finished i c (e ∷ stuck) list none = absurd (omega arith)

-- a run with its log whose status is 0 has an empty stuck list
pub none_stuck : (stuck : List Event) (w : Witness) → resampled_status stuck w ≡ 0 → end_status stuck ≡ 0
none_stuck stuck Unasked is = is
none_stuck stuck (Missing name entry c) is = absurd (omega arith)
none_stuck stuck (Shown tree) is = is

-- at the end of a run of a line with status 0 no event occurs
line_finished : (job : Job) (ws : List Watcher) (text : List ℕ) (o : Outcome) → ComesOf job ws text o
    → status_of o ≡ 0 → EndsFinished o
line_finished job ws text (Ended facts i c pops stuck a) h is =
    let of = ended_subject job ws text facts i c pops stuck a h in
    finished i c stuck (subst (λ j. IsStuckList j c stuck) (sym of.instance_is) of.end.stuck_list) is
line_finished job ws text (Resampled facts i placed stuck a) h is =
    finished i (replay (start_of i) (records_of placed)) stuck
    (resampled_made job ws text facts i placed stuck a h).leads.stuck_list (none_stuck stuck a.witness is)
line_finished job ws text (Rounded facts i c rounds stuck short) h is =
    finished i c stuck (rounded_made job ws text facts i c rounds stuck short h).end.stuck_list is
line_finished job ws text (Batched facts i ends) h is =
    λ j end at. let batch = batch_of job ws text facts i ends h in
    finished (instance_for j i) end.cursors end.stuck (batch.are.each j end at).first.stuck_list
    (unstuck ends j end is at)
line_finished job ws text (Replayed i c n k) h is = absurd (no_replay job ws text i c n k h)
line_finished job ws text o h is = tt

-- a run that stands finished is
look_finished : (k : Look) → look_status k ≡ 0 → k ≡ Finished
look_finished Finished is = refl
look_finished Exhausted is = absurd (omega (arith, is))
look_finished Open is = absurd (omega (arith, is))

-- so is one that is replayed with status 0
replay_finished : (i : Instance) (log : List LogRecord) (o : Outcome) → IsReplay i log o → status_of o ≡ 0
    → EndsFinished o
replay_finished i log o r is =
    let zero : look_status r.look ≡ 0 = ap status_of (sym r.told) ∙ is in
    subst EndsFinished (sym r.told) (r.is.finished_is.0 (look_finished r.look zero))

-- at the end of a run with status 0 no event occurs
pub sample_finished : (words : List (List ℕ)) (ws : List Watcher) (text : List ℕ) (o : Outcome)
    → IsOutcome words ws text o → status_of o ≡ 0 → EndsFinished o
sample_finished words ws text o h is = elim (word_cases words ws text o h) [
  | inl (place, o_is, bad) ↦ subst EndsFinished (sym o_is) tt
  | inr came ↦ elim (by_kind came.job.command came.job ws text o came.comes) [
    | inl (line, comes) ↦ line_finished came.job ws text o comes is
    | inr (inl (command, comes)) ↦ elim (replaying_cases text o comes) [
      | inl (r, o_is, refused) ↦ subst EndsFinished (sym o_is) tt
      | inr b ↦ replay_finished b.comes.has.instance b.comes.has.log o b.comes.is is
    ]
    | inr (inr (command, comes)) ↦ elim (resuming_cases ComesOf ws text o comes) [
      | inl (r, o_is, refused) ↦ subst EndsFinished (sym o_is) tt
      | inr b ↦ line_finished (job_of b.cert.head) ws b.cert.input o b.comes.comes is
    ]
  ]
]

-- ---- nothing stands against a run

-- the status is that of an end or a verdict
abbrev IsLow : ℕ → Type 0
IsLow status = (status ≡ 0) ⊎ (status ≡ 1)

-- that of an end is
end_low : (stuck : List Event) → IsLow (end_status stuck)
end_low [] = inl refl
end_low (e ∷ stuck) = inr refl

-- so is that of a resampling whose witness is there
resampled_low : (stuck : List Event) (w : Witness) → is_missing w ≡ false → IsLow (resampled_status stuck w)
resampled_low stuck Unasked has = end_low stuck
resampled_low stuck (Missing name entry c) has = absurd (cc)
resampled_low stuck (Shown tree) has = end_low stuck

-- a text that spells a formula is answered by it
spelled : (text : List ℕ) (f : Cnf) → Spells text f → AnswersCnf text (Ok f)
spelled text f s = let (none, is) = complete text f s.is in (none, is, s.full)

-- where nothing stands against a command and a text, the text isn't refused; rounds are made of one sample
unrefused : (k : Command) (job : Job) (text : List ℕ) (r : Refusal) → (k ≡ Rounds → job.count ≡ None)
    → CanBeDone k job text → RefusesBy k (wanted_by job) text r → ⊥
unrefused Formula job text r once (f, spells, (few, sound), extremal) h =
    cnf_unrefused (RefusesFormula false (origin_for job) job.count) text f r (spelled text f spells)
    (formula_unrefused false (origin_for job) job.count f r sound few
    (λ clash. no_clash f r clash clash.events clash.of_formula (extremal clash.events clash.of_formula))) h
unrefused Orient job text r once (g, is, touched, (few, sound)) h =
    graph_unrefused (RefusesOrienting (origin_for job) job.count) text g r (graphs.complete text g is)
    (orienting_unrefused (origin_for job) job.count g r touched sound few) h
unrefused Tree job text r once (g, is, last, joined, (few, sound)) h =
    graph_unrefused (RefusesTree (origin_for job) job.count job.root) text g r (graphs.complete text g is)
    (tree_unrefused (origin_for job) job.count job.root g r last joined sound few) h
unrefused Resample job text r once (f, spells, (few, sound)) h =
    cnf_unrefused (RefusesFormula true (origin_for job) job.count) text f r (spelled text f spells)
    (formula_unrefused true (origin_for job) job.count f r sound few (λ clash. clash)) h
unrefused Check job text r once (f, spells, extremal) h =
    cnf_unrefused IsClashing text f r (spelled text f spells)
    (λ clash. no_clash f r clash clash.events clash.of_formula (extremal clash.events clash.of_formula)) h
unrefused Make job text r once (few, sound) h =
    sound_unrefused (MadeFacts job.size) (origin_for job) (weights_of_tree (grid_of job.size) 1) job.count r sound few h
unrefused Rounds job text r once (f, spells, sound) h =
    cnf_unrefused (RefusesFormula true (origin_for job) job.count) text f r (spelled text f spells)
    (formula_unrefused true (origin_for job) job.count f r sound
    (no_count_few job.count (length (pair_weights f.variables)) (once refl)) (λ clash. clash)) h
unrefused Replay job text r once can h = h
unrefused Resume job text r once can h = h

-- the status of an end or a verdict is that of a run
low_is_done : (job : Job) (status : ℕ) → IsLow status → IsDone job status
low_is_done job status (inl is) = inl is
low_is_done job status (inr is) = inr (inl is)

-- so what comes of a line whose text isn't refused has that of a run
line_done : (job : Job) (ws : List Watcher) (text : List ℕ) (o : Outcome)
    → ((r : Refusal) → RefusesText (wanted_by job) text r → ⊥) → HasWitness o → ComesOf job ws text o
    → IsDone job (status_of o)
line_done job ws text (Refused r) none has h = absurd (none r h)
line_done job ws text (Extremal n) none has h = inl refl
line_done job ws text (Ended t i c n s a) none has h = low_is_done job (end_status s) (end_low s)
line_done job ws text (Resampled t i l s a) none has h =
    low_is_done job (resampled_status s a.witness) (resampled_low s a.witness has)
line_done job ws text (Rounded t i c n s v) none has h = low_is_done job (end_status s) (end_low s)
line_done job ws text (Batched t i es) none has h = low_is_done job (batch_status es) (batch_low es)
line_done job ws text (Paused told input t i l) none has h =
    let p = paused_made job ws text told input t i l h in
    inr (inr (refl, inl (λ out. none-some p.pops (sym out ∙ p.asked))))
line_done job ws text (Replayed i c n k) none has h = absurd (no_replay job ws text i c n k h)

-- of a replay
look_done : (job : Job) (k : Look) → job.command ≡ Replay → IsDone job (look_status k)
look_done job Finished is = inl refl
look_done job Exhausted is = inr (inl refl)
look_done job Open is = inr (inr (refl, inr is))

replay_done : (job : Job) (ws : List Watcher) (text : List ℕ) (o : Outcome) → job.command ≡ Replay
    → CanBeReplayed text → ComesOfReplaying text o → IsDone job (status_of o)
replay_done job ws text o is can h = elim (replaying_cases text o h) [
  | inl (r, o_is, refused) ↦
      absurd (accepted_or_refused text can.cert r can.short can.is (legal_log text can.cert can.is can.has) refused)
  | inr b ↦ subst (λ q. IsDone job (status_of q)) (sym b.comes.is.told) (look_done job b.comes.is.look is)
]

-- of a run that goes on
end_of_log : (job : Job) (log : List LogRecord) (o : Outcome) → GoesOnFrom log o → HasWitness o
    → IsDone job (status_of o)
end_of_log job log (Ended t i c n s a) goes has = low_is_done job (end_status s) (end_low s)
end_of_log job log (Resampled t i l s a) goes has =
    low_is_done job (resampled_status s a.witness) (resampled_low s a.witness has)
end_of_log job log o goes has = absurd goes

resume_done : (job : Job) (ws : List Watcher) (text : List ℕ) (o : Outcome) → CanBeReplayed text → HasWitness o
    → ComesOfResuming ComesOf ws text o → IsDone job (status_of o)
resume_done job ws text o can has h = elim (resuming_cases ComesOf ws text o h) [
  | inl (r, o_is, refused) ↦
      absurd (accepted_or_refused text can.cert r can.short can.is (legal_log text can.cert can.is can.has) refused)
  | inr b ↦ end_of_log job b.comes.has.log o b.comes.goes_on has
]

-- the law
pub all_done : Complete
all_done words ws text job status out asks can (o, (comes, has), tells) =
    subst (IsDone job) (sym tells.status_is)
    (elim (by_kind job.command job ws text o (asked_comes words job ws text o asks comes)) [
      | inl (line, h) ↦
          line_done job ws text o
          (λ r. unrefused job.command job text r (λ by. uncounted words job asks (ap is_batched by)) can) has h
      | inr (inl (is, h)) ↦ replay_done job ws text o is (subst (λ k. CanBeDone k job text) is can) h
      | inr (inr (is, h)) ↦ resume_done job ws text o (subst (λ k. CanBeDone k job text) is can) has h
    ])
