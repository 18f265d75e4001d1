-- An end at which no event occurs is also one over taller stacks. The one-thread run has the same log there, so its
-- printed form and its values are the same.
use Rattle.std.proofs.Common.{◌≡◌, ℕ, ◌<◌, ◌≤◌, List, [], ◌++◌, codes, Contains, None, refl, sym, ap, subst, ◌∙◌}
use Rattle.rand_chacha.specs.ChaCha.{key_of}
use Rattle.pop_model.specs.Stacks.{Origin}
use Rattle.pop_model.specs.Stacks.Origin.{Keyed}
use Rattle.pop_model.specs.Popping.{values_at}
use Rattle.pop_model.specs.Extremal.{IsExtremal}
use Rattle.pop_model.specs.Families.{Event}
use Rattle.pop_model.specs.Instances.{Instance}
use Rattle.pop_model.specs.Logs.{LogRecord, replay}
use Rattle.pop_model.specs.Runs.{IsFinished, IsFirstEnd, start_of}
use Rattle.pop_model.specs.Text.{line}
use Rattle.pop_model.proofs.TallerStacks.{raised_extends}
use Rattle.pop_log.specs.Layered.{AreSorted}
use Rattle.pop_stacks.specs.Faults.{IsSound}
use Rattle.pop_stacks.specs.declared.stack_spec.StackSpec.TheVariants.{Key}
use Rattle.pop_samples.proofs.Finishing.{first_finishes_by, none_stuck}
use Rattle.drawn_samples.specs.WhereLaws.{EndsAlike}
use Rattle.drawn_samples.proofs.FirstRuns.{one_first_log}
use Rattle.drawn_samples.proofs.Taller.{taller_first}
use Rattle.pop_words.specs.declared.job.Job.{Job}
use Rattle.pop_words.specs.Options.{quiet}
use Rattle.pop_watch.specs.Telling.{Watcher}
use Rattle.pop_print.specs.declared.facts.Facts.{Facts}
use Rattle.pop_print.specs.declared.facts.Facts.TheVariants.{Formula as FormulaFacts, Orient as OrientFacts, Tree as TreeFacts, Made as MadeFacts}
use Rattle.pop_print.specs.Made.{grid_line, slot_sum, sum_line, totals_line}
use Rattle.pop_print.specs.Output.{end_text, found_lines, pops_line, used_line}
use Rattle.job_subjects.specs.Subjects.{IsSubjectOf, Subject, instance_over}
use Rattle.told_runs.specs.declared.asked.Asked.{Asked}
use Rattle.told_runs.specs.Asking.{asked_by}
use Rattle.told_runs.specs.Ends.{EndsWithin, IsToldOfFirst}
use Rattle.told_runs.specs.Names.{names_for}
use Rattle.told_runs.specs.Outcomes.{Outcome, run_text, text_of, Tells}
use Rattle.told_runs.specs.Outcomes.Outcome.{Ended}
use Rattle.told_runs.specs.Tellings.{Telling, telling_text}
use Rattle.top_call.specs.Answers.{ComesOf, IsAnswer, last_height, origin_for, wanted_by}
use Rattle.top_call.proofs.ByCommand.{by_line}
use Rattle.top_call.proofs.Lifting.{of_words}
use Rattle.answer_laws.specs.TallerAnswers.{DifferInLastHeight, of_any_height}
use Rattle.answer_laws.proofs.KeyAnswers.{height_some, keyed_origin}
use Rattle.answer_laws.proofs.PrintedCounts.{none_left}
use Rattle.answer_laws.proofs.SubjectKinds.{HasFamily, same_subject, subject_family}
use Rattle.answer_laws.proofs.ToldSubjects.{IsEndOfSubject, ordered_extremal, quiet_line, quiet_ordered, subject_ended}

-- an end with the same values has the same text
same_end : (facts : Facts) (s : Subject) (a b : Origin) (c : List ℕ) (pops : ℕ)
    → values_at (instance_over b s).stacks c ≡ values_at (instance_over a s).stacks c
    → end_text facts (instance_over a s) c pops [] ≡ end_text facts (instance_over b s) c pops []
same_end (MadeFacts side) s a b c pops same =
    ap (λ (v : List ℕ). line (codes "s SAMPLE") ++ grid_line side ++ totals_line c ++ pops_line pops
    ++ sum_line (slot_sum v)) (sym same)
same_end (FormulaFacts n) s a b c pops same =
    ap (λ (v : List ℕ). found_lines (FormulaFacts n) s.family v [] ++ used_line c ++ pops_line pops) (sym same)
same_end (OrientFacts g) s a b c pops same =
    ap (λ (v : List ℕ). found_lines (OrientFacts g) s.family v [] ++ used_line c ++ pops_line pops) (sym same)
same_end (TreeFacts g root) s a b c pops same =
    ap (λ (v : List ℕ). found_lines (TreeFacts g root) s.family v [] ++ used_line c ++ pops_line pops) (sym same)

module _ (s : Subject) (family : HasFamily s) (extremal : IsExtremal s.family) (key : List ℕ) (sample low high : ℕ)
    (some : 0 < low) (le : low ≤ high) where
  -- the instances of both heights, of one sample
  abbrev i : Instance
  i = instance_over (Keyed key sample low) s

  abbrev j : Instance
  j = instance_over (Keyed key sample high) s

  -- a run that ends with a sample ends alike over the taller stacks
  alike : (c : List ℕ) (pops : ℕ) → (end : IsFirstEnd i c pops []) → EndsAlike i j end.run.0
  alike c pops end =
      let by = first_finishes_by i c pops end in
      taller_first i (family.fits (Keyed key sample low)) (λ v below. some) extremal j.stacks
      (raised_extends (Keyed key sample low) s.weights high (λ v. le)) end.run.0
      (record { run = end.run.1; finished = subst (IsFinished i) end.run.2 by.finished })

  -- so it is the end of theirs
  pub taller_end : (c : List ℕ) (pops : ℕ) → IsFirstEnd i c pops [] → IsFirstEnd j c pops []
  taller_end c pops end =
      let log : List LogRecord = end.run.0 in
      let to : EndsAlike i j log = alike c pops end in
      let cursors : c ≡ replay (start_of j) log = end.run.2 in
      record {
        run = (log, to.finishes.run, cursors, end.run.3);
        stuck_list = none_stuck j c (subst (IsFinished j) (sym cursors) to.finishes.finished);
      }

  -- and what is told of it is told of theirs
  pub taller_told : (asked : Asked) (ws : List Watcher) (c : List ℕ) (pops : ℕ) (a : Telling) → IsFirstEnd i c pops []
      → IsToldOfFirst asked ws (names_for s.facts) i a → IsToldOfFirst asked ws (names_for s.facts) j a
  taller_told asked ws c pops a end told =
      let log : List LogRecord = end.run.0 in
      let to : EndsAlike i j log = alike c pops end in
      let same : told.log ≡ log = one_first_log i extremal (start_of i) told.log log told.run end.run.1 in
      record {
        log = log;
        run = to.finishes.run;
        placed = told.placed;
        sorted = subst (λ (l : List LogRecord). AreSorted l told.placed) same told.sorted;
        told = record {
          log_is = told.told.log_is;
          witness_is = told.told.witness_is;
          reports_are = told.told.reports_are;
        };
      }

  -- the values there are the same
  pub taller_values : (c : List ℕ) (pops : ℕ) → IsFirstEnd i c pops [] → values_at j.stacks c ≡ values_at i.stacks c
  taller_values c pops end =
      subst (λ (d : List ℕ). values_at j.stacks d ≡ values_at i.stacks d) (sym end.run.2) (alike c pops end).values

module _ (words others : List (List ℕ)) (ws : List Watcher) (key text out : List ℕ) (d : DifferInLastHeight words others)
    (has : Contains quiet d.job.command) (given : d.job.stacks ≡ Key key) (once : d.job.count ≡ None) where
  -- the heights
  abbrev pub low : ℕ
  low = last_height d.job

  abbrev pub high : ℕ
  high = last_height d.other

  -- the others' stacks are of the same key
  pub given_too : d.other.stacks ≡ Key key
  given_too = sym (ap (λ (k : Job). k.stacks) d.same) ∙ given

  -- an end with a sample is one of theirs, and has the same text
  pub end_answer : (facts : Facts) (k : Instance) (c : List ℕ) (pops : ℕ) (stuck : List Event) (a : Telling)
      → IsEndOfSubject d.job ws text facts k c pops stuck a → Tells (Ended facts k c pops stuck a) 0 out
      → IsAnswer others ws text 0 out
  end_answer facts k c pops stuck a of tells =
      let s : Subject = of.subject in
      let other : Job = d.other in
      let some : 0 < low = height_some words d.job d.asks in
      let none : stuck ≡ [] = none_left stuck (sym tells.status_is) in
      let origin : origin_for d.job ≡ Keyed (key_of key) 0 low = keyed_origin d.job key given in
      let origin' : origin_for other ≡ Keyed (key_of key) 0 high = keyed_origin other key given_too in
      let family : HasFamily s = subject_family d.job.command (wanted_by d.job) text s of.is in
      let extremal : IsExtremal s.family = ordered_extremal d.job.command (wanted_by d.job) text s of.ordered of.is in
      let low_end : IsFirstEnd (instance_over (Keyed (key_of key) 0 low) s) c pops [] =
      subst (λ (l : List Event). IsFirstEnd (instance_over (Keyed (key_of key) 0 low) s) c pops l) none
      (subst (λ o. IsFirstEnd (instance_over o s) c pops stuck) origin of.end) in
      let low_told : IsToldOfFirst (asked_by d.job) ws (names_for s.facts) (instance_over (Keyed (key_of key) 0 low) s) a =
      subst (λ o. IsToldOfFirst (asked_by d.job) ws (names_for s.facts) (instance_over o s) a) origin of.told in
      let end : IsFirstEnd (instance_over (Keyed (key_of key) 0 high) s) c pops [] =
      taller_end s family extremal (key_of key) 0 low high some d.no_lower c pops low_end in
      let told : IsToldOfFirst (asked_by d.job) ws (names_for s.facts) (instance_over (Keyed (key_of key) 0 high) s) a =
      taller_told s family extremal (key_of key) 0 low high some d.no_lower (asked_by d.job) ws c pops a low_end low_told in
      let values = taller_values s family extremal (key_of key) 0 low high some d.no_lower c pops low_end in
      let asked : asked_by d.job ≡ asked_by other = ap asked_by d.same in
      let command : d.job.command ≡ other.command = ap (λ (j : Job). j.command) d.same in
      let is : IsSubjectOf other.command (wanted_by other) text s =
      same_subject other.command (wanted_by (of_any_height other)) (wanted_by other) text s refl refl
      (subst (λ (j : Job). IsSubjectOf j.command (wanted_by j) text s) d.same
      (same_subject d.job.command (wanted_by d.job) (wanted_by (of_any_height d.job)) text s refl refl of.is)) in
      let sound : IsSound (origin_for other) s.weights =
      subst (λ o. IsSound o s.weights) (sym origin') (record { rows = tt; light = of.sound.light }) in
      let o : Outcome = Ended s.facts (instance_over (origin_for other) s) c pops [] a in
      let has' = subst (Contains quiet) command has in
      let comes : ComesOf other ws text o =
      subject_ended other ws text s (quiet_ordered other.command has')
      (sym (ap (λ (j : Job). j.count) d.same) ∙ once) is sound c pops [] a
      (subst (λ most. EndsWithin most pops) (ap (λ (j : Job). j.pops) d.same) of.within) (
        subst (λ q. IsFirstEnd (instance_over q s) c pops []) (sym origin') end,
        subst (λ q. IsToldOfFirst (asked_by other) ws (names_for s.facts) (instance_over q s) a) (sym origin')
            (subst (λ q. IsToldOfFirst q ws (names_for s.facts) (instance_over (Keyed (key_of key) 0 high) s) a) asked told),
      ) in
      let here : text_of (Ended facts k c pops stuck a)
      ≡ run_text s.facts (instance_over (Keyed (key_of key) 0 low) s) c pops [] a =
      ap (λ (l : List Event). run_text facts k c pops l a) none
      ∙ ap (λ (t : Facts). run_text t k c pops [] a) of.facts_are
      ∙ ap (λ (m : Instance). run_text s.facts m c pops [] a) (of.instance_is ∙ ap (λ q. instance_over q s) origin) in
      let there : run_text s.facts (instance_over (Keyed (key_of key) 0 low) s) c pops [] a
      ≡ run_text s.facts (instance_over (Keyed (key_of key) 0 high) s) c pops [] a =
      ap (λ (t : List ℕ). t ++ telling_text (names_for s.facts) (instance_over (Keyed (key_of key) 0 low) s) a)
      (same_end s.facts s (Keyed (key_of key) 0 low) (Keyed (key_of key) 0 high) c pops values) in (
        o,
        of_words others other ws text d.asks_other o (by_line other.command other ws text o
            (quiet_line other.command has') comes),
        record {
          status_is = refl;
          out_is = tells.out_is ∙ here ∙ there
              ∙ ap (λ q. run_text s.facts (instance_over q s) c pops [] a) (sym origin');
        },
      )
