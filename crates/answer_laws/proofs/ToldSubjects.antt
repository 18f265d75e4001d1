-- What an outcome of a job and an input prints of a run, it prints of what is made from the input: a history, an end
-- of rounds, or a pause. The same holds for an end of the one-thread run of the subject, if the command's pops have
-- one order, and for a batch of such ends. Each such end is printed.
use Rattle.std.proofs.Common.{◌≡◌, ◌≢◌, ℕ, Bool, true, false, List, refl, sym, ap, ◌∙◌, Contains, None, subst, inl, inr, [], length, Option, Some}
use Rattle.std.proofs.lemmas.Bool.{false≢true}
use Rattle.std.proofs.lemmas.Option.{none-some}
use Rattle.pop_model.specs.Instances.{Instance}
use Rattle.pop_model.specs.Extremal.{IsExtremal}
use Rattle.pop_model.specs.Families.{Event}
use Rattle.pop_model.specs.Runs.{IsFirstEnd}
use Rattle.pop_stacks.specs.Faults.{IsSound}
use Rattle.confluence_core.specs.declared.end.End.{End}
use Rattle.prs_rounds.specs.Rounds.{IsRoundsEnd}
use Rattle.pop_words.specs.declared.command.Command.{Command}
use Rattle.pop_words.specs.declared.command.Command.TheVariants.{Formula, Orient, Tree, Resample, Make, Rounds, Replay, Resume}
use Rattle.pop_words.specs.Options.{quiet}
use Rattle.pop_words.proofs.ListTests.{all_at}
use Rattle.pop_words.specs.declared.job.Job.{Job}
use Rattle.pop_log.specs.Layers.{Placed}
use Rattle.pop_log.specs.Layered.{AreInLayers}
use Rattle.pop_watch.specs.Telling.{Watcher}
use Rattle.pop_print.specs.declared.facts.Facts.{Facts}
use Rattle.job_subjects.specs.declared.wanted.Wanted.{Wanted}
use Rattle.job_subjects.specs.StackFaults.{AreFew}
use Rattle.job_subjects.specs.Subjects.{Subject, IsSubjectOf, instance_over}
use Rattle.job_subjects.proofs.MadeExtremal.{subject_extremal}
use Rattle.job_subjects.specs.Made.{IsMade}
use Rattle.told_runs.specs.declared.asked.Asked.{Asked}
use Rattle.told_runs.specs.Outcomes.{Outcome}
use Rattle.told_runs.specs.Ends.{IsEndOf, IsToldOfFirst, EndsWithin}
use Rattle.told_runs.specs.Asking.{asked_by}
use Rattle.told_runs.specs.Names.{names_for}
use Rattle.told_runs.specs.Tellings.{Telling, IsToldOf, records_of, LeadsToEnd}
use Rattle.told_runs.specs.Batches.{IsBatchOf}
use Rattle.told_runs.specs.Outcomes.Outcome.{Ended, Batched, Resampled, Rounded, Paused}
use Rattle.top_call.specs.Answers.{EndsAs, IsOfLine, origin_for, wanted_by, ComesOf}
use Rattle.top_call.proofs.ByCommand.{reads_no_cert}
use Rattle.top_call.proofs.MadeComes.{ordered_end as one_thread_end, end_comes}
use Rattle.top_call.proofs.ReadCases.{run_ends, ended_as, batched_as, pause_no_end, resampled_as, rounded_as}
use Rattle.top_call.specs.Pauses.{IsPause, MayStop, Pauses}

-- ---- commands whose pops have one order

-- the command neither resamples nor makes rounds
pub record IsOrdered (k : Command) : Type 0 where
  pub no_resampling : k ≢ Resample
  pub no_rounds : k ≢ Rounds

-- its run ends as the one-thread run does
pub ordered_end : (k : Command) → IsOrdered k → (asked : Asked) (ws : List Watcher) (facts : Facts) (i : Instance)
    (o : Outcome) → IsEndOf asked ws facts i o → EndsAs k asked ws facts i o
ordered_end k ordered = one_thread_end k ordered.no_resampling ordered.no_rounds

-- and what it samples is extremal
pub ordered_extremal : (k : Command) (w : Wanted) (text : List ℕ) (s : Subject) → IsOrdered k → IsSubjectOf k w text s
    → IsExtremal s.family
ordered_extremal k w text s ordered is = subject_extremal k w text s ordered.no_resampling ordered.no_rounds is

-- the command is one of the quiet ones
abbrev pub is_quiet : Command → Bool
is_quiet Formula = true
is_quiet Orient = true
is_quiet Tree = true
is_quiet Make = true
is_quiet command = false

-- so it is no other
pub quiet_other : (k other : Command) → Contains quiet k → is_quiet other ≡ false → k ≢ other
quiet_other k other has loud same =
    false≢true (sym loud ∙ sym (ap is_quiet same) ∙ all_at is_quiet quiet refl k has)

pub quiet_ordered : (k : Command) → Contains quiet k → IsOrdered k
quiet_ordered k has = record {
  no_resampling = quiet_other k Resample has refl;
  no_rounds = quiet_other k Rounds has refl;
}

-- and reads no certificate
pub quiet_line : (k : Command) → Contains quiet k → IsOfLine k
quiet_line k has = reads_no_cert k (quiet_other k Replay has refl) (quiet_other k Resume has refl)

-- ---- ends and batches

-- what was sampled, with the end of its one-thread run
pub record IsEndOfSubject (job : Job) (ws : List Watcher) (text : List ℕ) (facts : Facts) (i : Instance) (c : List ℕ)
    (pops : ℕ) (stuck : List Event) (a : Telling) : Type 0 where
  pub ordered : IsOrdered job.command
  pub subject : Subject
  pub is : IsSubjectOf job.command (wanted_by job) text subject
  pub facts_are : facts ≡ subject.facts
  pub instance_is : i ≡ instance_over (origin_for job) subject
  pub sound : IsSound (origin_for job) subject.weights
  pub end : IsFirstEnd (instance_over (origin_for job) subject) c pops stuck
  pub told : IsToldOfFirst (asked_by job) ws (names_for subject.facts) (instance_over (origin_for job) subject) a
  pub once : job.count ≡ None
  pub within : EndsWithin job.pops pops

-- an end that comes of a job is one of what it samples
pub ended_subject : (job : Job) (ws : List Watcher) (text : List ℕ) (facts : Facts) (i : Instance) (c : List ℕ)
    (pops : ℕ) (stuck : List Event) (a : Telling) → ComesOf job ws text (Ended facts i c pops stuck a)
    → IsEndOfSubject job ws text facts i c pops stuck a
ended_subject job ws text facts i c pops stuck a h =
    let o : Outcome = Ended facts i c pops stuck a in
    let run : EndsAs job.command (asked_by job) ws h.facts h.instance o = run_ends job ws text o h (λ n at. at) in
    let end = ended_as job.command (asked_by job) ws h.facts h.instance facts i c pops stuck a run in
    let over = h.made.over in
    let s : Subject = h.made.subject in
    record {
      ordered = record {
        no_resampling = λ is. subst (λ k. EndsAs k (asked_by job) ws h.facts h.instance o) is run;
        no_rounds = λ is. subst (λ k. EndsAs k (asked_by job) ws h.facts h.instance o) is run;
      };
      subject = s;
      is = h.made.are;
      facts_are = end.0 ∙ over.facts_are;
      instance_is = end.1 ∙ over.instance_is;
      sound = over.sound;
      end = subst (λ j. IsFirstEnd j c pops stuck) over.instance_is end.2;
      told = subst (λ t. IsToldOfFirst (asked_by job) ws (names_for t) (instance_over (origin_for job) s) a) over.facts_are
          (subst (λ j. IsToldOfFirst (asked_by job) ws (names_for h.facts) j a) over.instance_is end.3);
      once = end.4;
      within = end.5;
    }

-- what was sampled, with the ends of a batch of it
pub record IsBatchOfSubject (job : Job) (text : List ℕ) (facts : Facts) (i : Instance) (ends : List End) : Type 0 where
  pub ordered : IsOrdered job.command
  pub subject : Subject
  pub is : IsSubjectOf job.command (wanted_by job) text subject
  pub facts_are : facts ≡ subject.facts
  pub instance_is : i ≡ instance_over (origin_for job) subject
  pub sound : IsSound (origin_for job) subject.weights
  pub few : AreFew job.count (length subject.weights)
  pub batch : IsBatchOf job.count (instance_over (origin_for job) subject) ends

-- so is a batch that comes of one
pub batched_subject : (job : Job) (ws : List Watcher) (text : List ℕ) (facts : Facts) (i : Instance) (ends : List End)
    → ComesOf job ws text (Batched facts i ends) → IsBatchOfSubject job text facts i ends
batched_subject job ws text facts i ends h =
    let o : Outcome = Batched facts i ends in
    let run : EndsAs job.command (asked_by job) ws h.facts h.instance o = run_ends job ws text o h (λ n at. at) in
    let end = batched_as job.command (asked_by job) ws h.facts h.instance facts i ends run in
    let over = h.made.over in
    record {
      ordered = record {
        no_resampling = λ is. subst (λ k. EndsAs k (asked_by job) ws h.facts h.instance o) is run;
        no_rounds = λ is. subst (λ k. EndsAs k (asked_by job) ws h.facts h.instance o) is run;
      };
      subject = h.made.subject;
      is = h.made.are;
      facts_are = end.0 ∙ over.facts_are;
      instance_is = end.1 ∙ over.instance_is;
      sound = over.sound;
      few = over.few;
      batch = subst (λ j. IsBatchOf job.count j ends) over.instance_is end.2;
    }

-- one sample of a subject is made over sound stacks
pub one_is_made : (w : Wanted) (text : List ℕ) (s : Subject) → w.count ≡ None → IsSubjectOf w.command w text s
    → IsSound w.origin s.weights → IsMade w text s.facts (instance_over w.origin s)
one_is_made w text s once is sound = record {
  subject = s;
  are = is;
  over = record {
    facts_are = refl;
    instance_is = refl;
    sound = sound;
    few = λ count many. absurd (none-some count (sym once ∙ many));
  };
}

-- the end of the one-thread run of a subject, and what is told of it
abbrev pub EndsSubject : Job → List Watcher → List ℕ → ℕ → List Event → Telling → Subject → Type 0
EndsSubject job ws c pops stuck a s =
    IsFirstEnd (instance_over (origin_for job) s) c pops stuck
    × IsToldOfFirst (asked_by job) ws (names_for s.facts) (instance_over (origin_for job) s) a

-- such an end of what a job samples comes of it, where no number of samples is asked for
pub subject_ended : (job : Job) (ws : List Watcher) (text : List ℕ) (s : Subject) → IsOrdered job.command
    → job.count ≡ None → IsSubjectOf job.command (wanted_by job) text s → IsSound (origin_for job) s.weights
    → (c : List ℕ) (pops : ℕ) (stuck : List Event) (a : Telling) → EndsWithin job.pops pops
    → EndsSubject job ws c pops stuck a s
    → ComesOf job ws text (Ended s.facts (instance_over (origin_for job) s) c pops stuck a)
subject_ended job ws text s ordered once is sound c pops stuck a within end =
    let i : Instance = instance_over (origin_for job) s in
    let o : Outcome = Ended s.facts i c pops stuck a in
    end_comes job job.command ws text s.facts i refl (one_is_made (wanted_by job) text s once is sound) o
    (ordered_end job.command ordered (asked_by job) ws s.facts i o (refl, refl, end.0, end.1, once, within))

-- ---- histories, ends of rounds and pauses

-- what is told as the facts and the instance of what is made is made
made_as : (w : Wanted) (text : List ℕ) (facts told : Facts) (i j : Instance) → told ≡ facts → j ≡ i
    → IsMade w text facts i → IsMade w text told j
made_as w text facts told i j told_is j_is made =
    subst (λ t. IsMade w text t j) (sym told_is) (subst (IsMade w text facts) (sym j_is) made)

-- a history of what is made, which is resampled
pub record IsHistoryOfMade (job : Job) (ws : List Watcher) (text : List ℕ) (facts : Facts) (i : Instance)
    (placed : List Placed) (stuck : List Event) (a : Telling) : Type 0 where
  pub by : job.command ≡ Resample
  pub made : IsMade (wanted_by job) text facts i
  pub leads : LeadsToEnd i (records_of placed) stuck
  pub layered : AreInLayers [] placed
  pub told : IsToldOf (asked_by job) ws (names_for facts) i placed a
  pub within : EndsWithin job.pops (length placed)

pub resampled_made : (job : Job) (ws : List Watcher) (text : List ℕ) (facts : Facts) (i : Instance)
    (placed : List Placed) (stuck : List Event) (a : Telling) → ComesOf job ws text (Resampled facts i placed stuck a)
    → IsHistoryOfMade job ws text facts i placed stuck a
resampled_made job ws text facts i placed stuck a h =
    let (by, history) =
    resampled_as job.command (asked_by job) ws h.facts h.instance facts i placed stuck a
    (run_ends job ws text (Resampled facts i placed stuck a) h (λ n at. at)) in
    let (facts_are, i_is, leads, layered, told, within) = history in
    record {
      by = by;
      made = made_as (wanted_by job) text h.facts facts h.instance i facts_are i_is h.made;
      leads = subst (λ k. LeadsToEnd k (records_of placed) stuck) (sym i_is) leads;
      layered = layered;
      told = subst (λ t. IsToldOf (asked_by job) ws (names_for t) i placed a) (sym facts_are)
          (subst (λ k. IsToldOf (asked_by job) ws (names_for h.facts) k placed a) (sym i_is) told);
      within = within;
    }

-- the end of rounds of what is made for these
pub record IsRoundsEndOfMade (job : Job) (text : List ℕ) (facts : Facts) (i : Instance) (c : List ℕ) (rounds : ℕ)
    (stuck : List Event) (short : Option ℕ) : Type 0 where
  pub by : job.command ≡ Rounds
  pub made : IsMade (wanted_by job) text facts i
  pub end : IsRoundsEnd i c rounds stuck short

pub rounded_made : (job : Job) (ws : List Watcher) (text : List ℕ) (facts : Facts) (i : Instance) (c : List ℕ)
    (rounds : ℕ) (stuck : List Event) (short : Option ℕ) → ComesOf job ws text (Rounded facts i c rounds stuck short)
    → IsRoundsEndOfMade job text facts i c rounds stuck short
rounded_made job ws text facts i c rounds stuck short h =
    let (by, told) =
    rounded_as job.command (asked_by job) ws h.facts h.instance facts i c rounds stuck short
    (run_ends job ws text (Rounded facts i c rounds stuck short) h (λ n at. at)) in
    let (facts_are, i_is, end) = told in
    record {
      by = by;
      made = made_as (wanted_by job) text h.facts facts h.instance i facts_are i_is h.made;
      end = subst (λ k. IsRoundsEnd k c rounds stuck short) (sym i_is) end;
    }

-- a pause of the run of what is made, of this job and input
pub record IsPauseOfMade (job : Job) (text : List ℕ) (told : Job) (input : List ℕ) (facts : Facts) (i : Instance)
    (placed : List Placed) : Type 0 where
  pub job_is : told ≡ job
  pub input_is : input ≡ text
  pub made : IsMade (wanted_by job) text facts i
  pub may : MayStop job
  pub pops : ℕ
  pub asked : job.pops ≡ Some pops
  pub pause : IsPause i pops placed

pub paused_made : (job : Job) (ws : List Watcher) (text : List ℕ) (told : Job) (input : List ℕ) (facts : Facts)
    (i : Instance) (placed : List Placed) → ComesOf job ws text (Paused told input facts i placed)
    → IsPauseOfMade job text told input facts i placed
paused_made job ws text told input facts i placed h =
    let p : Pauses job text h.facts h.instance (Paused told input facts i placed) = elim h.run [
      | inl end ↦
          absurd (pause_no_end job.command (asked_by job) ws h.facts h.instance told input facts i placed end)
      | inr stops ↦ stops
    ] in
    let (job_is, input_is, facts_are, i_is, pause) = p.at in
    record {
      job_is = job_is;
      input_is = input_is;
      made = made_as (wanted_by job) text h.facts facts h.instance i facts_are i_is h.made;
      may = p.may;
      pops = p.pops;
      asked = p.asked;
      pause = subst (λ k. IsPause k p.pops placed) (sym i_is) pause;
    }
