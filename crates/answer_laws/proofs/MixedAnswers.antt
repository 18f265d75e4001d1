-- The ends of a batch under a key are those of the key's own tables, whether or not each has a sample.
use Rattle.std.proofs.Common.{ℕ, length, map, replicate, Option, refl, sym, ap, subst, unwrap_or}
use Rattle.std.proofs.lemmas.List.{length-replicate}
use Rattle.rand_chacha.specs.ChaCha.{key_of}
use Rattle.pop_model.specs.Stacks.Origin.{Keyed}
use Rattle.pop_model.specs.Extremal.{IsExtremal}
use Rattle.pop_samples.specs.Frames.{Frame, IsFrame}
use Rattle.pop_samples.specs.Exchange.{Samples}
use Rattle.pop_batch.specs.Batches.{AreEnds}
use Rattle.key_samples.specs.Keys.{batch_numbers}
use Rattle.key_samples.specs.Numbers.{HaveWeights}
use Rattle.drawn_samples.specs.Mixed.{BatchEndsSo, sample_of}
use Rattle.drawn_samples.proofs.KeyedMixed.{keyed_mixed}
use Rattle.drawn_samples.proofs.Mixed.{mixed_runs}
use Rattle.job_subjects.specs.Subjects.{Subject, instance_over}
use Rattle.told_runs.specs.Outcomes.Outcome.{Batched}
use Rattle.top_call.specs.Answers.{last_height, wanted_by}
use Rattle.answer_laws.specs.KeyAnswers.{keyed_frame}
use Rattle.answer_laws.specs.MixedAnswers.{MixedAnswers}
use Rattle.answer_laws.proofs.KeyAnswers.{height_some, heights_above, keyed_origin, subject_has}
use Rattle.answer_laws.proofs.OneOutcome.{line_comes}
use Rattle.answer_laws.proofs.SubjectKinds.{subject_family, subject_frame}
use Rattle.answer_laws.proofs.ToldSubjects.{IsBatchOfSubject, batched_subject, ordered_extremal, quiet_line}

-- the law
pub mixed_answers : MixedAnswers
mixed_answers job key words ws text facts i ends has given asks comes =
    let of : IsBatchOfSubject job text facts i ends =
    batched_subject job ws text facts i ends
    (line_comes words job ws text (Batched facts i ends) asks (quiet_line job.command has) comes) in
    let s : Subject = of.subject in
    let height : ℕ = last_height job in
    let f : Frame = keyed_frame s height in
    let extremal : IsExtremal s.family = ordered_extremal job.command (wanted_by job) text s of.ordered of.is in
    let have : HaveWeights s.weights = subject_has job.command (wanted_by job) text s of.is in
    let frame : IsFrame f =
    subject_frame s (subject_family job.command (wanted_by job) text s of.is) (replicate (length s.weights) height)
    (length-replicate (length s.weights) height) (heights_above (length s.weights) height (height_some words job asks)) in
    let are : AreEnds (instance_over (Keyed (key_of key) 0 height) s) of.batch.count ends =
    subst (λ o. AreEnds (instance_over o s) of.batch.count ends) (keyed_origin job key given) of.batch.are in
    record {
      subject = s;
      is = of.is;
      mixed = mixed_runs f frame have extremal;
      ends_so = subst
          (λ n. BatchEndsSo f (Samples f) (map sample_of ends) (batch_numbers (key_of key) height (length s.weights) n))
          (ap (λ (n : Option ℕ). unwrap_or n 1) (sym of.batch.asked_is))
          (keyed_mixed f frame have extremal (key_of key) height of.batch.count refl ends are);
    }
