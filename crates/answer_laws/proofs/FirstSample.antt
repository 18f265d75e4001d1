-- The first sample of a batch: its stacks are those of the job without a number of samples, and so is its end. Neither
-- prints a log.
use Rattle.std.proofs.Common.{◌≡◌, ◌⊎◌, ℕ, ◌<◌, ◌≤◌, true, List, [], ◌∷◌, ◌++◌, flat_map, if◌then◌else◌, None, Some, IfSome, refl, sym, ap, ap₂, subst, ◌∙◌, arith, append_assoc, append-nil, Bool, false}
use Rattle.std.specs.List.{enumerate_from}
use Rattle.std.proofs.lemmas.Bool.{false≢true}
use Rattle.std.proofs.lemmas.Option.{none-some, same_Some}
use Rattle.pop_model.specs.Stacks.{origin_for as origin_of_sample}
use Rattle.pop_model.specs.Families.{Event}
use Rattle.pop_model.specs.Instances.{Instance, instance_for}
use Rattle.pop_model.specs.Logs.{LogRecord, replay}
use Rattle.pop_model.specs.Runs.{IsFirstEnd, start_of}
use Rattle.pop_stacks.specs.declared.stack_spec.StackSpec.{StackSpec}
use Rattle.pop_stacks.specs.declared.stack_spec.StackSpec.TheVariants.{Key as KeyedStacks, Given as GivenStacks}
use Rattle.pop_stacks.specs.Tables.{origin_of}
use Rattle.confluence_core.specs.declared.end.End.{End}
use Rattle.pop_words.specs.declared.command.Command.{Command}
use Rattle.pop_words.specs.declared.command.Command.TheVariants.{Formula, Orient, Tree}
use Rattle.pop_words.specs.declared.job.Job.{Job}
use Rattle.pop_words.specs.CommandLines.{Asks}
use Rattle.pop_words.proofs.JobsInRange.{asked_count}
use Rattle.pop_words.specs.declared.field.Field.{Field}
use Rattle.pop_words.specs.declared.field.Field.TheVariants.{Count}
use Rattle.pop_words.proofs.OneJob.{same_job}
use Rattle.pop_log.specs.declared.names.Names.{Names}
use Rattle.pop_watch.specs.Telling.{Watcher, log_told}
use Rattle.pop_print.specs.declared.facts.Facts.{Facts}
use Rattle.pop_print.specs.Output.{full_text, end_text}
use Rattle.pop_print.specs.Batches.{batch_line, sample_line, numbered_text, batch_text}
use Rattle.job_subjects.specs.Subjects.{Subject, instance_over}
use Rattle.told_runs.specs.Names.{names_for}
use Rattle.told_runs.specs.Reports.{reports_text}
use Rattle.told_runs.specs.Witnesses.{IsWitness}
use Rattle.told_runs.specs.Witnesses.Witness.{Unasked}
use Rattle.told_runs.specs.Tellings.{Telling, records_of, layered_text, telling_text}
use Rattle.told_runs.specs.Outcomes.{Outcome, status_of, text_of, run_text, end_status}
use Rattle.told_runs.specs.Outcomes.Outcome.{Refused, Extremal, Ended, Resampled, Rounded, Batched, Paused, Replayed}
use Rattle.told_runs.specs.Ends.{IsToldOfFirst, EndsWithin}
use Rattle.told_runs.specs.Asking.{asked_by}
use Rattle.told_runs.proofs.LayeredOrders.{layered_order}
use Rattle.top_call.specs.Answers.{last_height, origin_for, wanted_by, ComesOf, IsOfLine}
use Rattle.top_call.proofs.BatchEnds.{batch_of}
use Rattle.top_call.proofs.BatchWords.{is_batched, IsQuiet, counted_command, counted_quiet, uncounted}
use Rattle.top_call.proofs.ByCommand.{by_line}
use Rattle.top_call.proofs.PauseWords.{counted_runs_out}
use Rattle.top_call.proofs.ReadCases.{no_replay}
use Rattle.top_call.proofs.Lifting.{of_words}
use Rattle.answer_laws.specs.FirstSample.{of_one, BeginsWithOne, FirstSample, tells_count, FirstSampleOfWords}
use Rattle.answer_laws.proofs.ToldSubjects.{IsBatchOfSubject, batched_subject, ended_subject, subject_ended, resampled_made, rounded_made}
use Rattle.answer_laws.proofs.OneOutcome.{line_comes}
use Rattle.answer_laws.proofs.RefusedOr.{refusal_not_low, not_low}
use Rattle.answer_laws.proofs.ShownBatches.{in_full}
use Rattle.answer_laws.proofs.SubjectKinds.{same_subject}
use Rattle.answer_laws.proofs.OptionKinds.{all_left}

-- sample 0 has the entries of the job without a number
of_first : (job : Job) → origin_of_sample 0 (origin_for job) ≡ origin_for job
of_first job = by_spec job.stacks (last_height job)
  where
    by_spec : (spec : StackSpec) (height : ℕ) → origin_of_sample 0 (origin_of spec height) ≡ origin_of spec height
    by_spec (GivenStacks rows) height = refl
    by_spec (KeyedStacks key) height = refl

-- what is told where nothing is asked for
record TellsNothing (job : Job) (ws : List Watcher) (names : Names) (i : Instance) : Type 0 where
  telling : Telling
  told : IsToldOfFirst (asked_by job) ws names i telling
  empty : telling_text names i telling ≡ []

tells_nothing : (job : Job) (ws : List Watcher) (names : Names) (i : Instance) (c : List ℕ) (pops : ℕ)
    (stuck : List Event) → IsQuiet job → IsFirstEnd i c pops stuck → TellsNothing job ws names i
tells_nothing job ws names i c pops stuck quiet end =
    let log : List LogRecord = end.run.0 in
    let order = layered_order log in
    let records : List LogRecord = records_of order.0 in
    let printed = if job.log then Some (order.0) else None in
    let reports : List ℕ = reports_text job.reports (log_told records ws) in
    record {
      telling = record { log = printed; witness = Unasked; reports = reports };
      told = record {
        log = log;
        run = end.run.1;
        placed = order.0;
        sorted = order.1;
        told = record {
          log_is = refl;
          witness_is =
              subst (λ w. IsWitness names w (replay (start_of i) records) records Unasked) (sym quiet.witness) tt;
          reports_are = refl;
        };
      };
      empty = ap₂ (λ (a b : List ℕ). (a ++ []) ++ b)
          (ap (λ b. layered_text names i (if b then Some (order.0) else None)) quiet.log)
          (ap (λ r. reports_text r (log_told records ws)) quiet.reports);
    }

-- the text of the first sample is the answer of its job
first_text : (job : Job) (text : List ℕ) (facts : Facts) (i : Instance) (ends : List End)
    (of : IsBatchOfSubject job text facts i ends) (end : End) (a : Telling) → is_batched job.command ≡ true
    → telling_text (names_for of.subject.facts) (instance_over (origin_for job) of.subject) a ≡ []
    → full_text facts (instance_for 0 i) end.cursors end.pops end.stuck
    ≡ run_text of.subject.facts (instance_over (origin_for job) of.subject) end.cursors end.pops end.stuck a
first_text job text facts i ends of end a batched empty =
    let s : Subject = of.subject in
    let j : Instance = instance_over (origin_for job) s in
    let c : List ℕ = end.cursors in
    let stuck : List Event = end.stuck in
    ap (λ f. full_text f (instance_for 0 i) c end.pops stuck) of.facts_are
    ∙ ap (λ k. full_text s.facts (instance_for 0 k) c end.pops stuck) of.instance_is
    ∙ ap (λ o. full_text s.facts (instance_over o s) c end.pops stuck) (of_first job)
    ∙ sym (in_full job.command (wanted_by job) text s j c end.pops stuck batched of.is)
    ∙ sym (append-nil (end_text s.facts j c end.pops stuck))
    ∙ ap (λ l. end_text s.facts j c end.pops stuck ++ l) (sym empty)

-- a batch begins with it
begins : (words : List (List ℕ)) (job : Job) (asks : Asks words job) (count : ℕ) → job.count ≡ Some count
    → (ws : List Watcher) (text : List ℕ) (facts : Facts) (i : Instance) (ends : List End)
    → ComesOf job ws text (Batched facts i ends) → BeginsWithOne job ws text count (batch_text facts i ends)
begins words job asks count is ws text facts i [] h =
    let batch = batch_of job ws text facts i [] h in
    let same : batch.count ≡ count = same_Some _ _ (sym batch.asked_is ∙ is) in
    let size = batch.are.count_is in
    let range : (0 < count) × (count ≤ 65536) =
    subst (λ k. IfSome k (λ n. (0 < n) × (n ≤ 65536))) is (asked_count words job asks) in
    let some = range.0 in
    absurd (omega (arith, same, size, some))
begins words job asks count is ws text facts i (end ∷ ends) h =
    let of = batched_subject job ws text facts i (end ∷ ends) h in
    let same : of.batch.count ≡ count = same_Some _ _ (sym of.batch.asked_is ∙ is) in
    let s : Subject = of.subject in
    let j : Instance = instance_over (origin_for job) s in
    let batched = counted_command words job asks count is in
    let first : IsFirstEnd j end.cursors end.pops end.stuck =
    subst (λ o. IsFirstEnd (instance_over o s) end.cursors end.pops end.stuck) (of_first job)
    (of.batch.are.each 0 end refl).first in
    let nothing = tells_nothing (of_one job) ws (names_for s.facts) j end.cursors end.pops end.stuck
    (let quiet = counted_quiet words job asks count is in
    record { log = quiet.log; witness = quiet.witness; reports = quiet.reports }) first in
    let out : List ℕ = run_text s.facts j end.cursors end.pops end.stuck nothing.telling in
    let rest : List ℕ = flat_map (numbered_text facts i) (enumerate_from 1 ends) in
    let told : full_text facts (instance_for 0 i) end.cursors end.pops end.stuck ≡ out =
    first_text job text facts i (end ∷ ends) of end nothing.telling batched nothing.empty in
    record {
      first = out;
      rest = rest;
      out_is = ap₂ (λ n l. batch_line n ++ ((sample_line 0 ++ l) ++ rest)) (of.batch.are.count_is ∙ same) told
          ∙ ap (λ l. batch_line count ++ l) (append_assoc (sample_line 0) out rest);
      status = end_status end.stuck;
      answer = (
        Ended s.facts j end.cursors end.pops end.stuck nothing.telling,
        subject_ended (of_one job) ws text s of.ordered refl
            (same_subject job.command (wanted_by job) (wanted_by (of_one job)) text s refl refl of.is) of.sound
            end.cursors end.pops end.stuck nothing.telling
            (subst (λ most. EndsWithin most end.pops) (sym (counted_runs_out words job asks count is)) tt)
            (first, nothing.told),
        record { status_is = refl; out_is = refl },
      );
    }

-- where a number is asked for, what isn't refused is a batch
batch_begins : (words : List (List ℕ)) (job : Job) (asks : Asks words job) (count : ℕ) → job.count ≡ Some count
    → (ws : List Watcher) (text : List ℕ) (o : Outcome) → ComesOf job ws text o
    → (status_of o ≡ 0) ⊎ (status_of o ≡ 1) → BeginsWithOne job ws text count (text_of o)
batch_begins words job asks count is ws text (Refused r) h low = absurd (refusal_not_low r low)
batch_begins words job asks count is ws text (Paused j w t i l) h low = absurd (not_low 10 (omega arith) low)
batch_begins words job asks count is ws text (Replayed i c n k) h low = absurd (no_replay job ws text i c n k h)
batch_begins words job asks count is ws text (Extremal n) (check, verdict) low =
    absurd (none-some count (sym (uncounted words job asks (ap is_batched check)) ∙ is))
batch_begins words job asks count is ws text (Ended t i c n s a) h low =
    absurd (none-some count (sym (ended_subject job ws text t i c n s a h).once ∙ is))
batch_begins words job asks count is ws text (Resampled t i l s a) h low =
    let by = (resampled_made job ws text t i l s a h).by in
    absurd (none-some count (sym (uncounted words job asks (ap is_batched by)) ∙ is))
batch_begins words job asks count is ws text (Rounded t i c n s v) h low =
    let by = (rounded_made job ws text t i c n s v h).by in
    absurd (none-some count (sym (uncounted words job asks (ap is_batched by)) ∙ is))
batch_begins words job asks count is ws text (Batched t i ends) h low =
    begins words job asks count is ws text t i ends h

-- a command that has batches reads no certificate
pub batched_line : (k : Command) → is_batched k ≡ true → IsOfLine k
batched_line Formula is = tt
batched_line Orient is = tt
batched_line Tree is = tt
batched_line k is = absurd (false≢true is)

-- the law
pub first_sample : FirstSample
first_sample words ws text job count status out asks is (o, comes, tells) low =
    let line = batched_line job.command (counted_command words job asks count is) in
    subst (BeginsWithOne job ws text count) (sym tells.out_is)
    (batch_begins words job asks count is ws text o
    (line_comes words job ws text o asks line comes)
    (subst (λ n. (n ≡ 0) ⊎ (n ≡ 1)) tells.status_is low))

-- the field is the number of samples
abbrev is_of_count : Field → Bool
is_of_count Count = true
is_of_count field = false

-- the law of words without `--count`, which ask for the job without a number of samples
pub first_sample_of_words : FirstSampleOfWords
first_sample_of_words words others ws text job count status out d asks is answer low =
    let begins = first_sample words ws text job count status out asks is answer low in
    let same : of_one job ≡ d.other =
    ap of_one (same_job words job d.job asks d.asks)
    ∙ all_left tells_count is_of_count (record { all_agree = refl; one_field = refl }) words others d.job d.other d.asks
    d.asks_other d.command d.options refl in
    let line = batched_line job.command (counted_command words job asks count is) in
    let (o, comes, tells) = begins.answer in
    let other : ComesOf d.other ws text o = subst (λ j. ComesOf j ws text o) same comes in
    record {
      first = begins.first;
      rest = begins.rest;
      out_is = begins.out_is;
      status = begins.status;
      answer = (
        o,
        of_words others d.other ws text d.asks_other o (by_line d.other.command d.other ws text o
            (subst (λ (j : Job). IsOfLine j.command) same line) other),
        tells,
      );
    }
