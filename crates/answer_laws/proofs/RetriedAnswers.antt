-- Each call tells a sample exactly if its key's table is one of those of its try (StoppedAnswers). So the first call
-- that tells one is the first try that gives one of the keys' tables.
use Rattle.std.proofs.Common.{inl, inr, ◌≡◌, ◌↔◌, ℕ, List, [], ◌∷◌, length, map, replicate, All, subst, arith}
use Rattle.std.proofs.lemmas.List.{length-replicate}
use Rattle.std.proofs.lemmas.List.Elements.{All-cons, All-head, All-tail}
use Rattle.rand_chacha.specs.ChaCha.{key_of}
use Rattle.pop_model.specs.Extremal.{IsExtremal}
use Rattle.pop_samples.specs.Frames.{Frame, IsFrame}
use Rattle.key_samples.specs.Keys.{numbers_of}
use Rattle.key_samples.specs.Numbers.{AreNumbers, HaveWeights, TableOf}
use Rattle.key_samples.proofs.KeyNumbers.{key_numbers}
use Rattle.drawn_samples.specs.Retried.{AreTables, Gives, Keeps, frame_of}
use Rattle.drawn_samples.specs.Where.{SamplesWhere}
use Rattle.drawn_samples.proofs.Retried.{retried_runs}
use Rattle.job_subjects.specs.Subjects.{Subject}
use Rattle.top_call.specs.Answers.{last_height, wanted_by}
use Rattle.answer_laws.specs.ExactAnswers.{frame_over}
use Rattle.answer_laws.specs.KeyAnswers.{EndsWithSamples, keyed_frame}
use Rattle.answer_laws.specs.StoppedAnswers.{is_within}
use Rattle.answer_laws.specs.RetriedAnswers.{Called, FirstSampleIs, IsCalled, RetriedAnswers, table_of, try_of}
use Rattle.answer_laws.proofs.KeyAnswers.{height_some, heights_above, subject_has}
use Rattle.answer_laws.proofs.OneSubject.{one_subject}
use Rattle.answer_laws.proofs.StoppedAnswers.{stopped_answers}
use Rattle.answer_laws.proofs.SubjectKinds.{subject_family, subject_frame}
use Rattle.answer_laws.proofs.ToldSubjects.{ordered_extremal, quiet_ordered}

module _ (text : List ℕ) (s : Subject) where
  -- the frame, whatever the heights are
  abbrev f : Frame
  f = frame_over s []

  -- a call tells a sample exactly if its key's table gives it
  told_so : (c : Called) → IsCalled text s c → (w : List ℕ)
      → EndsWithSamples c.outcome (w ∷ []) ↔ Gives f SamplesWhere (try_of s c) w (table_of s c)
  told_so c is w =
      let stopped =
      stopped_answers c.job c.key is.words is.watchers text c.outcome is.quiet_command is.given is.asks is.is is.run in
      let same : stopped.subject ≡ s =
      one_subject c.job.command (wanted_by c.job) text stopped.subject s stopped.is is.subject in
      subst (λ (t : Subject). EndsWithSamples c.outcome (w ∷ [])
      ↔ TableOf (keyed_frame t (last_height c.job))
      (SamplesWhere (keyed_frame t (last_height c.job)) (is_within c.job.pops) w)
      (numbers_of (key_of c.key) 0 (last_height c.job) (length t.weights))) same (stopped.ends w)

  -- a call has a table
  own_numbers : (c : Called) → AreNumbers (try_of s c).heights (table_of s c)
  own_numbers c = key_numbers (key_of c.key) 0 (last_height c.job) (length s.weights)

  -- and so have all
  own_tables : (calls : List Called) → AreTables (map (try_of s) calls) (map (table_of s) calls)
  own_tables [] = tt
  own_tables (c ∷ calls) = (own_numbers c, own_tables calls)

  -- so the first sample is kept of these tables
  to_kept : (calls : List Called) → All (IsCalled text s) calls → (w : List ℕ) → FirstSampleIs calls w
      → Keeps f SamplesWhere (map (try_of s) calls) w (map (table_of s) calls)
  to_kept [] are w first = absurd first
  to_kept (c ∷ calls) are w (inl tells) =
      inl ((told_so c (All-head (IsCalled text s) c calls are) w).0 tells, own_tables calls)
  to_kept (c ∷ calls) are w (inr (never, later)) = inr (
    (
      own_numbers c,
      λ some. never some.values ((told_so c (All-head (IsCalled text s) c calls are) some.values).1 some.table),
    ),
    to_kept calls (All-tail (IsCalled text s) c calls are) w later,
  )

  -- and back
  of_kept : (calls : List Called) → All (IsCalled text s) calls → (w : List ℕ)
      → Keeps f SamplesWhere (map (try_of s) calls) w (map (table_of s) calls) → FirstSampleIs calls w
  of_kept [] are w keeps = absurd keeps
  of_kept (c ∷ calls) are w (inl (gives, tables)) =
      inl ((told_so c (All-head (IsCalled text s) c calls are) w).1 gives)
  of_kept (c ∷ calls) are w (inr ((numbers, never), later)) = inr (
    λ x tells.
        never (record { values = x; table = (told_so c (All-head (IsCalled text s) c calls are) x).0 tells }),
    of_kept calls (All-tail (IsCalled text s) c calls are) w later,
  )

  -- each try has a frame
  frames : (calls : List Called) → All (IsCalled text s) calls
      → All (λ t. IsFrame (frame_of f t)) (map (try_of s) calls)
  frames [] are k d less = absurd (omega (arith, less))
  frames (c ∷ calls) are k d less =
      All-cons (λ t. IsFrame (frame_of f t)) (try_of s c) (map (try_of s) calls)
      (of_call (All-head (IsCalled text s) c calls are)) (frames calls (All-tail (IsCalled text s) c calls are)) k d
      less
    where
      of_call : IsCalled text s c → IsFrame (frame_of f (try_of s c))
      of_call is =
          subject_frame s (subject_family c.job.command (wanted_by c.job) text s is.subject)
          (replicate (length s.weights) (last_height c.job)) (length-replicate (length s.weights) (last_height c.job))
          (heights_above (length s.weights) (last_height c.job) (height_some is.words c.job is.asks))

-- the law
pub retried_answers : RetriedAnswers
retried_answers text s c calls are =
    let is : IsCalled text s c = All-head (IsCalled text s) c calls are in
    let have : HaveWeights s.weights = subject_has c.job.command (wanted_by c.job) text s is.subject in
    let extremal : IsExtremal s.family =
    ordered_extremal c.job.command (wanted_by c.job) text s (quiet_ordered c.job.command is.quiet_command) is.subject in
    record {
      kept = retried_runs (frame_over s []) have extremal (map (try_of s) (c ∷ calls)) (frames text s (c ∷ calls) are);
      own = λ w. (to_kept text s (c ∷ calls) are w, of_kept text s (c ∷ calls) are w);
    }
