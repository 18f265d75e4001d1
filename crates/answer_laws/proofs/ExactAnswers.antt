-- The theorem of exactness, stated for answers. The rows of arguments that have an answer are valid, and belong to the
-- frame of the subject. So the theorems about samples give the run of the rows with another sample, or of rows that
-- have the sample from the start.
use Rattle.std.proofs.Common.{◌≡◌, ℕ, suc, ◌+◌, ◌<◌, List, [], ◌∷◌, length, map, get_or, replicate, refl, sym, ap, ap₂, subst, ◌∙◌, arith, zero-add, Option, None, Some}
use Rattle.std.specs.List.{enumerate_from}
use Rattle.std.proofs.lemmas.List.{length-map, length-replicate, get_or-map}
use Rattle.pop_model.specs.Stacks.{row_of, value_from}
use Rattle.pop_model.specs.Stacks.Origin.{Given as GivenRows}
use Rattle.pop_model.specs.Popping.{values_at}
use Rattle.pop_model.specs.Instances.{Instance}
use Rattle.pop_model.specs.Extremal.{IsExtremal}
use Rattle.pop_model.specs.Logs.{LogRecord}
use Rattle.pop_model.specs.Runs.{IsFirstEnd, start_of}
use Rattle.confluence_core.specs.Laws.{RunsToEnd}
use Rattle.pop_log.specs.declared.names.Names.{Names}
use Rattle.pop_log.specs.Layered.{AreSorted}
use Rattle.pop_log.proofs.UnitEvents.{HaveCubes, family_cubes}
use Rattle.pop_stacks.specs.Faults.{AreLight, AreSoundRows, IsSound}
use Rattle.pop_samples.specs.Frames.{AreRows, Frame, IsFrame, IsSampleOf, Rows, over}
use Rattle.pop_samples.specs.Exchange.{SamplesAt, entries_under, exchange}
use Rattle.pop_samples.specs.ExactLaws.{KeepsEnd}
use Rattle.pop_samples.specs.Finishing.{FinishesBy}
use Rattle.pop_samples.proofs.ExchangedSamples.{exchanged_ends, exchange_leaves}
use Rattle.pop_samples.proofs.Finishing.{finished_ends, first_finishes_by, runs_like}
use Rattle.pop_samples.proofs.FrameRows.{rows_count, some_entry, suits_end}
use Rattle.pop_samples.proofs.Reached.{reached_samples}
use Rattle.pop_words.specs.declared.job.Job.{Job}
use Rattle.pop_words.specs.CommandLines.{Asks}
use Rattle.pop_words.proofs.GivenAlone.{asked_alone}
use Rattle.pop_watch.specs.Telling.{Watcher}
use Rattle.pop_print.specs.declared.facts.Facts.{Facts}
use Rattle.told_runs.specs.declared.asked.Asked.{Asked}
use Rattle.told_runs.specs.Names.{names_for}
use Rattle.told_runs.specs.Tellings.{Telling}
use Rattle.told_runs.specs.Outcomes.Outcome.{Ended}
use Rattle.told_runs.specs.Ends.{IsToldOfFirst, EndsWithin}
use Rattle.top_call.specs.Answers.{wanted_by, ComesOf}
use Rattle.told_runs.specs.Asking.{asked_by}
use Rattle.job_subjects.specs.Subjects.{Subject, instance_over, IsSubjectOf}
use Rattle.answer_laws.specs.ExactAnswers.{over_rows, frame_of, frame_over, IsSampledBy, ExchangedAnswers, ReachedAnswers}
use Rattle.top_call.proofs.ByCommand.{by_line}
use Rattle.answer_laws.proofs.OptionKinds.{rows_line}
use Rattle.answer_laws.proofs.ToldSubjects.{IsEndOfSubject, ended_subject, subject_ended, IsOrdered, ordered_extremal, quiet_ordered}
use Rattle.told_runs.proofs.ToldOfFirst.{first_runs, sorted_first, told_of_first}
use Rattle.answer_laws.proofs.ToldLogs.{told_at_start}
use Rattle.answer_laws.proofs.OneOutcome.{line_comes}
use Rattle.answer_laws.proofs.SubjectKinds.{same_subject, HasFamily, subject_family, subject_frame}

-- the values of rows at cursors, from variable n on, are the entries under the cursors
values_from : (value : ℕ → ℕ → ℕ) (n : ℕ) (rows : Rows) (c : List ℕ) → length c ≡ length rows
    → ((v k : ℕ) → v < length rows → value (n + v) k ≡ get_or (row_of rows v) k 0)
    → map (λ p. value p.0 p.1) (enumerate_from n c) ≡ entries_under rows c
values_from value n [] [] size same = refl
values_from value n [] (k ∷ c) size same = absurd (omega (arith, size))
values_from value n (row ∷ rows) [] size same = absurd (omega (arith, size))
values_from value n (row ∷ rows) (k ∷ c) size same =
    ap₂ (λ (x : ℕ) (xs : List ℕ). x ∷ xs) (ap (λ m. value m k) (omega arith) ∙ same 0 k (omega arith))
    (values_from value (n + 1) rows c (omega (arith, size))
    (λ v j below. ap (λ m. value m j) (omega arith) ∙ same (suc v) j (omega (arith, below))))

-- the values at cursors are the entries of the rows there
pub values_are : (weights : List (List ℕ)) (rows : Rows) (c : List ℕ) → length c ≡ length rows
    → values_at (record { origin = GivenRows rows; weights = weights }) c ≡ entries_under rows c
values_are weights rows c size =
    values_from (λ v k. value_from (GivenRows rows) weights v k) 0 rows c size
    (λ v k below. ap (λ m. get_or (row_of rows m) k 0) (zero-add v))

-- rows of a frame are sound for stacks of its weights, which are light
pub sound_rows : (f : Frame) → IsFrame f → (rows : Rows) → AreRows f.weights f.heights rows → AreLight f.weights
    → IsSound (GivenRows rows) f.weights
sound_rows f frame rows shape light = record {
  rows = record {
    count = rows_count f frame rows shape;
    entries = λ v below. some_entry f frame rows shape v below;
    values = shape.values;
  };
  light = light;
}

-- sound rows are those of a frame of their heights
pub rows_framed : (rows : Rows) (weights : List (List ℕ)) → AreSoundRows rows weights
    → AreRows weights (map length rows) rows
rows_framed rows weights sound = record { lengths = refl; values = sound.values }

-- each of their heights is above 0
pub heights_some : (rows : Rows) (weights : List (List ℕ)) → AreSoundRows rows weights → (k d : ℕ)
    → k < length (map length rows) → 0 < get_or (map length rows) k d
heights_some rows weights sound k d within =
    let size : length (map length rows) ≡ length rows = length-map rows (λ (row : List ℕ). length row) in
    let below : k < length rows = omega (arith, within, size) in
    let high = sound.entries k below in
    let at : get_or (map length rows) k d ≡ length (row_of rows k) =
    get_or-map (λ (row : List ℕ). length row) rows k [] d below in
    omega (arith, high, at)

-- what is sampled doesn't hang on the rows
pub of_rows : (job : Job) (rows : Rows) (text : List ℕ) (s : Subject)
    → IsSubjectOf job.command (wanted_by job) text s → IsSubjectOf job.command (wanted_by (over_rows job rows)) text s
of_rows job rows text s is = same_subject job.command (wanted_by job) (wanted_by (over_rows job rows)) text s refl refl is

-- words over rows are answered by the end of the run over these
pub sampled_by : (words : List (List ℕ)) (watchers : List Watcher) (text : List ℕ) (job : Job) (rows : Rows) (s : Subject)
    (x c : List ℕ) (pops : ℕ) (a : Telling) → Asks words (over_rows job rows) → IsOrdered job.command
    → IsSubjectOf job.command (wanted_by job) text s → IsSound (GivenRows rows) s.weights
    → IsFirstEnd (instance_over (GivenRows rows) s) c pops []
    → IsToldOfFirst (asked_by job) watchers (names_for s.facts) (instance_over (GivenRows rows) s) a
    → length c ≡ length rows → entries_under rows c ≡ x → EndsWithin job.pops pops
    → IsSampledBy words watchers text s.facts x c pops a
sampled_by words watchers text job rows s x c pops a asks ordered is sound end told size entries within =
    let mine : Job = over_rows job rows in
    record {
      instance = instance_over (GivenRows rows) s;
      outcome = record {
        job = mine;
        asks = asks;
        comes = by_line job.command mine watchers text (Ended s.facts (instance_over (GivenRows rows) s) c pops [] a)
            (rows_line words mine asks rows refl)
            (subject_ended mine watchers text s ordered (asked_alone words mine asks rows refl).1
            (of_rows job rows text s is) sound c pops [] a within (end, told));
      };
      sample = values_are s.weights rows c size ∙ entries;
    }

-- no pop is within any number of pops
within_none : (most : Option ℕ) → EndsWithin most 0
within_none None = tt
within_none (Some most) = omega arith

-- what is told of the run of rows is told of the rows with another sample in place of its own
moved_telling : (f : Frame) → HaveCubes f.family → IsExtremal f.family → (asked : Asked) (ws : List Watcher)
    (names : Names) (rows others : Rows) (c : List ℕ) (pops : ℕ) (a : Telling) → IsFirstEnd (over f rows) c pops []
    → IsToldOfFirst asked ws names (over f rows) a
    → ((log : List LogRecord) → FinishesBy (over f rows) log c → FinishesBy (over f others) log c)
    → IsFirstEnd (over f others) c pops [] → IsToldOfFirst asked ws names (over f others) a
moved_telling f cubes extremal asked ws names rows others c pops a end told same other =
    let log : List LogRecord = end.run.0 in
    let sorted : AreSorted log told.placed =
    sorted_first (over f rows) cubes extremal told.log log (first_runs (over f rows) told.log told.run) end.run.1
    told.placed told.sorted in
    let by : FinishesBy (over f others) log c = same log (first_finishes_by (over f rows) c pops end) in
    let runs : RunsToEnd (over f others) (start_of (over f others)) log =
    record { legal = by.legal; end = finished_ends (over f others) log c by } in
    told_of_first asked ws names (over f others) cubes extremal log other.run.0 runs other.run.1 told.placed sorted a
    (record {
      log_is = told.told.log_is;
      witness_is = told.told.witness_is;
      reports_are = told.told.reports_are;
    })

-- the law of another sample
pub exchanged_answers : ExchangedAnswers
exchanged_answers job rows words others watchers text facts i c pops a x asks asks' h sample =
    let mine : Job = over_rows job rows in
    let comes : ComesOf mine watchers text (Ended facts i c pops [] a) =
    line_comes words mine watchers text (Ended facts i c pops [] a) asks (rows_line words mine asks rows refl) h in
    let of : IsEndOfSubject mine watchers text facts i c pops [] a =
    ended_subject mine watchers text facts i c pops [] a comes in
    let s : Subject = of.subject in
    let f : Frame = frame_over s (map length rows) in
    let sound : AreSoundRows rows s.weights = of.sound.rows in
    let family : HasFamily s = subject_family job.command (wanted_by mine) text s of.is in
    let extremal : IsExtremal s.family = ordered_extremal job.command (wanted_by mine) text s of.ordered of.is in
    let count : length (map length rows) ≡ length s.weights =
    length-map rows (λ (row : List ℕ). length row) ∙ sound.count in
    let frame : IsFrame f = subject_frame s family (map length rows) count (heights_some rows s.weights sound) in
    let shape : AreRows f.weights f.heights rows = rows_framed rows s.weights sound in
    let is : IsSampleOf f x =
    subst (λ (j : Instance). IsSampleOf (frame_of j (map length rows)) x) of.instance_is sample in
    let w : List ℕ = entries_under rows c in
    let by = first_finishes_by (over f rows) c pops of.end in
    let at : SamplesAt f w c rows =
    record { shape = shape; finishes = (of.end.run.0, by); entries = refl } in
    let to = exchange_leaves f frame w x c rows at is in
    let new : Rows = exchange rows c x in
    let kept : KeepsEnd f x c pops rows = exchanged_ends f frame extremal x c pops rows shape of.end is in
    let size : length c ≡ length new = (suits_end f frame new to.samples.shape c to.samples.finishes).size in
    let told : IsToldOfFirst (asked_by job) watchers (names_for s.facts) (over f new) a =
    moved_telling f (family_cubes f.family family.family) extremal (asked_by job) watchers (names_for s.facts)
    rows new c pops a of.end of.told to.same_log kept.end in
    subst (λ (t : Facts). IsSampledBy others watchers text t x c pops a) (sym of.facts_are)
    (sampled_by others watchers text mine new s x c pops a asks' of.ordered of.is
    (sound_rows f frame new to.samples.shape of.sound.light) kept.end told size kept.entries of.within)

-- the law of each sample
pub reached_answers : ReachedAnswers
reached_answers job text s heights x has is light count some sample =
    let f : Frame = frame_over s heights in
    let ordered : IsOrdered job.command = quiet_ordered job.command has in
    let extremal : IsExtremal s.family = ordered_extremal job.command (wanted_by job) text s ordered is in
    let frame : IsFrame f =
    subject_frame s (subject_family job.command (wanted_by job) text s is) heights count some in
    let reached = reached_samples f frame x sample in
    let rows : Rows = reached.0 in
    let at = reached.1 in
    let start : List ℕ = start_of (over f rows) in
    let zeros : start ≡ replicate (length x) 0 = ap (λ n. replicate n 0) (sym sample.count) in
    let by : FinishesBy (over f rows) [] start =
    record { legal = tt; leads = refl; finished = at.finishes.1.finished } in
    let first : IsFirstEnd (over f rows) start 0 [] = (runs_like (over f rows) extremal [] start by).first in
    let c : List ℕ = replicate (length x) 0 in
    let end : IsFirstEnd (over f rows) c 0 [] = subst (λ (d : List ℕ). IsFirstEnd (over f rows) d 0 []) zeros first in
    let size : length c ≡ length rows =
    length-replicate (length x) 0 ∙ sample.count ∙ sym (rows_count f frame rows at.shape) in
    let entries : entries_under rows c ≡ x = subst (λ (d : List ℕ). entries_under rows d ≡ x) zeros at.entries in
    record {
      rows = rows;
      lengths = at.shape.lengths;
      answers = λ words watchers asks.
          let told = told_at_start (asked_by job) watchers (names_for s.facts) (over f rows)
          (finished_ends (over f rows) [] start by) in (
            told.0,
            sampled_by words watchers text job rows s x c 0 told.0 asks ordered is
                (sound_rows f frame rows at.shape light) end told.1 size entries (within_none job.pops),
          );
    }
