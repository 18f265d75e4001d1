-- The theorem of exactness for rounds, stated for answers. Rows that arguments give are valid if rounds are printed
-- for them, and belong to a frame of the formula's events. So the theorem of the exchange gives the rounds of the rows
-- with another assignment, and those of rows that have the assignment from the start.
use Rattle.std.proofs.Common.{◌≡◌, ℕ, ◌<◌, true, List, [], ◌∷◌, length, map, get_or, sum, replicate, refl, sym, ap, subst, ◌∙◌, arith, All, Option, None, Ok}
use Rattle.std.proofs.lemmas.List.{length-map, length-replicate, get_or-replicate}
use Rattle.pop_model.specs.Stacks.{Origin}
use Rattle.pop_model.specs.Stacks.Origin.{Given as GivenRows}
use Rattle.pop_model.specs.Popping.{Cube, values_at}
use Rattle.pop_model.specs.Families.{Event}
use Rattle.pop_model.specs.Instances.{Instance}
use Rattle.pop_stacks.specs.Faults.{AreLight, AreSoundRows, IsSound}
use Rattle.prs_rounds.specs.Rounds.{IsRoundsEnd}
use Rattle.pop_samples.specs.Frames.{AreRows, Frame, IsFrame, IsSampleOf, Rows}
use Rattle.pop_samples.specs.Exchange.{entries_under, exchange}
use Rattle.round_samples.specs.Sampled.{SampledBy}
use Rattle.round_samples.specs.ExactLaws.{ExchangesRounds}
use Rattle.round_samples.proofs.ExchangedRounds.{exchanged_rounds, rounds_suit}
use Rattle.round_samples.proofs.ExactCounts.{reached_by_rounds}
use Rattle.pop_words.specs.declared.command.Command.{Command}
use Rattle.pop_words.specs.declared.command.Command.TheVariants.{Rounds}
use Rattle.pop_words.specs.declared.job.Job.{Job}
use Rattle.pop_words.specs.CommandLines.{Asks}
use Rattle.dimacs_read.specs.Cnf.{Cnf}
use Rattle.dimacs_read.specs.CnfText.{AnswersCnf, cnf_of}
use Rattle.dimacs_read.specs.Falsifying.{AreEventsOf}
use Rattle.pop_watch.specs.Telling.{Watcher}
use Rattle.pop_print.specs.declared.facts.Facts.{Facts}
use Rattle.pop_print.specs.declared.facts.Facts.TheVariants.{Formula as FormulaFacts}
use Rattle.job_subjects.specs.declared.refusal.Refusal.{Refusal}
use Rattle.job_subjects.specs.declared.wanted.Wanted.{Wanted}
use Rattle.job_subjects.specs.Subjects.{pair_weights, Subject, instance_over, assignments, AreAssignments, IsOfCnf, IsSubjectOf}
use Rattle.job_subjects.specs.Made.{IsMade}
use Rattle.job_subjects.specs.Refused.{RefusesText}
use Rattle.told_runs.specs.Asking.{asked_by}
use Rattle.told_runs.specs.Outcomes.{Outcome}
use Rattle.told_runs.specs.Outcomes.Outcome.{Refused, Rounded, Extremal, Paused}
use Rattle.top_call.specs.Answers.{origin_for, wanted_by, EndsAs, ComesOf, IsOfLine, IsOutcome}
use Rattle.top_call.proofs.BatchWords.{is_batched, uncounted}
use Rattle.top_call.proofs.ByCommand.{by_line}
use Rattle.top_call.proofs.MadeComes.{end_comes}
use Rattle.top_call.proofs.PauseWords.{paused_no_rounds}
use Rattle.top_call.proofs.ReadCases.{run_ends}
use Rattle.answer_laws.specs.ExactAnswers.{frame_over, over_rows}
use Rattle.answer_laws.specs.RoundAnswers.{ExchangedRoundAnswers, IsRoundedBy, ReachedRoundAnswers}
use Rattle.answer_laws.proofs.OptionKinds.{rows_line}
use Rattle.answer_laws.proofs.ToldSubjects.{one_is_made, rounded_made, paused_made}
use Rattle.answer_laws.proofs.EverySample.{every_assignment}
use Rattle.answer_laws.proofs.ExactAnswers.{heights_some, rows_framed, sound_rows, values_are}
use Rattle.answer_laws.proofs.OneOutcome.{line_comes}
use Rattle.answer_laws.proofs.SubjectKinds.{assignments_family, subject_frame}

-- rounds of a text's formula are asked of its events, whether or not these clash
pub rounds_subject : (w : Wanted) (text : List ℕ) (events : List (ℕ × Cube)) → AnswersCnf text (Ok (cnf_of text))
    → AreEventsOf (cnf_of text).clauses events → IsSubjectOf Rounds w text (assignments (cnf_of text) events)
rounds_subject w text events spelled are = record {
  formula = cnf_of text;
  spelled = spelled;
  are = record { events = events; of_formula = are; extremal = λ may_not. absurd (cc); is = refl };
}

-- they make a frame for rows of any heights
pub rounds_frame : (text : List ℕ) (events : List (ℕ × Cube)) (heights : List ℕ) → AnswersCnf text (Ok (cnf_of text))
    → AreEventsOf (cnf_of text).clauses events → length heights ≡ (cnf_of text).variables → All (λ h. 0 < h) heights
    → IsFrame (frame_over (assignments (cnf_of text) events) heights)
rounds_frame text events heights spelled are count =
    subject_frame (assignments (cnf_of text) events) (assignments_family text (cnf_of text) events spelled are) heights
    (count ∙ sym (length-replicate {A = List ℕ} (cnf_of text).variables (1 ∷ 1 ∷ [])))

-- an end of rounds: that of the events of the text's formula, over stacks without a fault
pub record IsEndOfRounds (origin : Origin) (text : List ℕ) (facts : Facts) (i : Instance) (c : List ℕ) (rounds : ℕ)
    (stuck : List Event) (short : Option ℕ) : Type 0 where
  pub spelled : AnswersCnf text (Ok (cnf_of text))
  pub events : List (ℕ × Cube)
  pub of_formula : AreEventsOf (cnf_of text).clauses events
  pub facts_are : facts ≡ FormulaFacts (cnf_of text).variables
  pub instance_is : i ≡ instance_over origin (assignments (cnf_of text) events)
  pub sound : IsSound origin (pair_weights (cnf_of text).variables)
  pub end : IsRoundsEnd (instance_over origin (assignments (cnf_of text) events)) c rounds stuck short

-- one that is told comes of rounds alone
pub rounded_of : (job : Job) (ws : List Watcher) (text : List ℕ) (facts : Facts) (i : Instance) (c : List ℕ)
    (rounds : ℕ) (stuck : List Event) (short : Option ℕ) → ComesOf job ws text (Rounded facts i c rounds stuck short)
    → (job.command ≡ Rounds) × IsEndOfRounds (origin_for job) text facts i c rounds stuck short
rounded_of job ws text facts i c rounds stuck short h =
    let of = rounded_made job ws text facts i c rounds stuck short h in
    let over = of.made.over in
    let s : Subject = of.made.subject in
    let is : IsOfCnf (AreAssignments true) text s =
    subst (λ k. IsSubjectOf k (wanted_by job) text s) of.by of.made.are in
    let events : List (ℕ × Cube) = is.are.events in
    let same : is.formula ≡ cnf_of text = is.spelled.1 in
    let s_is : s ≡ assignments (cnf_of text) events = is.are.is ∙ ap (λ (f : Cnf). assignments f events) same in
    let own : i ≡ instance_over (origin_for job) (assignments (cnf_of text) events) =
    over.instance_is ∙ ap (instance_over (origin_for job)) s_is in (
      of.by,
      record {
        spelled = subst (λ f. AnswersCnf text (Ok f)) same is.spelled;
        events = events;
        of_formula = subst (λ (f : Cnf). AreEventsOf f.clauses events) same is.are.of_formula;
        facts_are = over.facts_are ∙ ap (λ (t : Subject). t.facts) s_is;
        instance_is = own;
        sound = subst (λ (t : Subject). IsSound (origin_for job) t.weights) s_is over.sound;
        end = subst (λ j. IsRoundsEnd j c rounds stuck short) own of.end;
      },
    )

-- what holds of refusals and of such ends holds of what comes of rounds
pub of_rounds : (job : Job) → job.command ≡ Rounds → (ws : List Watcher) (text : List ℕ) (P : Outcome → Type 0)
    → ((r : Refusal) → RefusesText (wanted_by job) text r → P (Refused r))
    → ((facts : Facts) (i : Instance) (c : List ℕ) (rounds : ℕ) (stuck : List Event) (short : Option ℕ)
    → IsEndOfRounds (origin_for job) text facts i c rounds stuck short → P (Rounded facts i c rounds stuck short))
    → (o : Outcome) → ComesOf job ws text o → P o
of_rounds job by ws text P refused end (Refused r) h = refused r h
of_rounds job by ws text P refused end (Extremal n) (check, verdict) = absurd (cc)
of_rounds job by ws text P refused end (Rounded t i c n s v) h =
    end t i c n s v (rounded_of job ws text t i c n s v h).1
of_rounds job by ws text P refused end (Paused told input t i l) h =
    absurd (paused_no_rounds job.command (paused_made job ws text told input t i l h).may.command by)
of_rounds job by ws text P refused end o h =
    absurd (subst (λ k. EndsAs k (asked_by job) ws h.facts h.instance o) by (run_ends job ws text o h (λ n at. at)))

-- the rounds of a line read no certificate
pub rounds_line_of : (command : Command) → command ≡ Rounds → IsOfLine command
rounds_line_of command is = subst IsOfLine (sym is) tt

-- words for rounds are answered by each end of them with a sample
pub answered_by : (words : List (List ℕ)) (ws : List Watcher) (text : List ℕ) (job : Job) (events : List (ℕ × Cube))
    (values c : List ℕ) (rounds : ℕ) → Asks words job → job.command ≡ Rounds → AnswersCnf text (Ok (cnf_of text))
    → AreEventsOf (cnf_of text).clauses events → IsSound (origin_for job) (pair_weights (cnf_of text).variables)
    → IsRoundsEnd (instance_over (origin_for job) (assignments (cnf_of text) events)) c rounds [] None
    → values_at (instance_over (origin_for job) (assignments (cnf_of text) events)).stacks c ≡ values
    → IsRoundedBy words ws text values c rounds
answered_by words ws text job events values c rounds asks is spelled are sound end same =
    let s : Subject = assignments (cnf_of text) events in
    let i : Instance = instance_over (origin_for job) s in
    let o : Outcome = Rounded s.facts i c rounds [] None in
    let made : IsMade (wanted_by job) text s.facts i =
    one_is_made (wanted_by job) text s (uncounted words job asks (ap is_batched is))
    (subst (λ k. IsSubjectOf k (wanted_by job) text s) (sym is) (rounds_subject (wanted_by job) text events spelled are))
    sound in
    record {
      instance = i;
      outcome = record {
        job = job;
        asks = asks;
        comes = by_line job.command job ws text o (rounds_line_of job.command is)
            (end_comes job Rounds ws text s.facts i is made o (refl, refl, end));
      };
      sample = same;
    }

-- what words for a job are answered by comes of the job
pub comes_of_job : (words : List (List ℕ)) (ws : List Watcher) (text : List ℕ) (job : Job) (facts : Facts) (i : Instance)
    (c : List ℕ) (rounds : ℕ) (stuck : List Event) (short : Option ℕ) → Asks words job → IsOfLine job.command
    → IsOutcome words ws text (Rounded facts i c rounds stuck short)
    → (job.command ≡ Rounds) × IsEndOfRounds (origin_for job) text facts i c rounds stuck short
comes_of_job words ws text job facts i c rounds stuck short asks line h =
    let o : Outcome = Rounded facts i c rounds stuck short in
    rounded_of job ws text facts i c rounds stuck short
    (line_comes words job ws text o asks line h)

-- the law of another assignment
pub exchanged_round_answers : ExchangedRoundAnswers
exchanged_round_answers job rows words others ws text w x c rounds asks asks' by satisfied =
    let mine : Job = over_rows job rows in
    let came = comes_of_job words ws text mine (FormulaFacts (cnf_of text).variables) by.instance c rounds [] None asks
    (rows_line words mine asks rows refl) by.outcome in
    let e : IsEndOfRounds (GivenRows rows) text (FormulaFacts (cnf_of text).variables) by.instance c rounds [] None =
    came.1 in
    let s : Subject = assignments (cnf_of text) e.events in
    let f : Frame = frame_over s (map length rows) in
    let sound : AreSoundRows rows s.weights = e.sound.rows in
    let count : length (map length rows) ≡ (cnf_of text).variables =
    length-map rows (λ (row : List ℕ). length row) ∙ sound.count
    ∙ length-replicate {A = List ℕ} (cnf_of text).variables (1 ∷ 1 ∷ []) in
    let frame : IsFrame f = rounds_frame text e.events (map length rows) e.spelled e.of_formula count
    (heights_some rows s.weights sound) in
    let shape : AreRows f.weights f.heights rows = rows_framed rows s.weights sound in
    let sample : IsSampleOf f x = every_assignment (cnf_of text) e.events (map length rows) x e.of_formula satisfied in
    let size : length c ≡ length rows = (rounds_suit f frame rows shape c rounds e.end).size in
    let own : entries_under rows c ≡ w =
    sym (values_are s.weights rows c size) ∙ ap (λ (i : Instance). values_at i.stacks c) (sym e.instance_is) ∙ by.sample in
    let to : ExchangesRounds f w x c rounds rows = exchanged_rounds f frame tt w x c rounds rows
    (record { shape = shape; end = e.end; entries = own }) sample in
    let new : Rows = exchange rows c x in
    let there : SampledBy f x c rounds new = to.sampled in
    let size' : length c ≡ length new = (rounds_suit f frame new there.shape c rounds there.end).size in
    record {
      answered = answered_by others ws text (over_rows job new) e.events x c rounds asks' came.0 e.spelled e.of_formula
          (sound_rows f frame new there.shape e.sound.light) there.end
          (values_are s.weights new c size' ∙ there.entries);
      back = to.back;
    }

-- weights of pairs are light
pub pairs_light : (n : ℕ) → AreLight (pair_weights n)
pairs_light n v below =
    let size = length-replicate {A = List ℕ} n (1 ∷ 1 ∷ []) in
    let total : sum (get_or (pair_weights n) v []) ≡ 2 =
    ap sum (get_or-replicate n v (1 ∷ 1 ∷ []) [] (omega (arith, below, size))) in
    omega (arith, total)

-- the law of each assignment
pub reached_round_answers : ReachedRoundAnswers
reached_round_answers job text events heights x is spelled are satisfied count some =
    let s : Subject = assignments (cnf_of text) events in
    let f : Frame = frame_over s heights in
    let frame : IsFrame f = rounds_frame text events heights spelled are count some in
    let sample : IsSampleOf f x = every_assignment (cnf_of text) events heights x are satisfied in
    let reached = reached_by_rounds f frame x sample in
    let rows : Rows = reached.0 in
    let c : List ℕ = replicate (length x) 0 in
    let zeros : replicate (length f.weights) 0 ≡ c = ap (λ n. replicate n 0) (sym sample.count) in
    let at : SampledBy f x c 0 rows = subst (λ (d : List ℕ). SampledBy f x d 0 rows) zeros reached.1 in
    let size : length c ≡ length rows = (rounds_suit f frame rows at.shape c 0 at.end).size in
    record {
      rows = rows;
      lengths = at.shape.lengths;
      answers = λ words ws asks.
          answered_by words ws text (over_rows job rows) events x c 0 asks is spelled are
          (sound_rows f frame rows at.shape (pairs_light (cnf_of text).variables)) at.end
          (values_are s.weights rows c size ∙ at.entries);
    }
