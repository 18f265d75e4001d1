-- A batch of samples is also one over taller stacks: each of its ends is that of the taller run, with the same values.
use Rattle.std.proofs.Common.{◌≡◌, ℕ, suc, ◌+◌, ◌<◌, ◌≤◌, List, [], ◌∷◌, ◌++◌, flat_map, length, Contains, Some, slice_get, refl, sym, ap, ap₂, subst, ◌∙◌, arith}
use Rattle.std.specs.List.{enumerate_from}
use Rattle.rand_chacha.specs.ChaCha.{key_of}
use Rattle.pop_model.specs.Stacks.{stacks_for}
use Rattle.pop_model.specs.Stacks.Origin.{Keyed}
use Rattle.pop_model.specs.Popping.{cursor, values_at}
use Rattle.pop_model.specs.Extremal.{IsExtremal}
use Rattle.pop_model.specs.Families.{Event}
use Rattle.pop_model.specs.Instances.{Instance}
use Rattle.pop_model.specs.Runs.{IsFirstEnd}
use Rattle.pop_stacks.specs.Faults.{IsSound}
use Rattle.pop_stacks.specs.declared.stack_spec.StackSpec.TheVariants.{Key}
use Rattle.confluence_core.specs.declared.end.End.{End}
use Rattle.pop_batch.specs.Batches.{AreEnds, IsSampleEnd}
use Rattle.pop_words.specs.declared.job.Job.{Job}
use Rattle.pop_words.specs.Options.{quiet}
use Rattle.pop_watch.specs.Telling.{Watcher}
use Rattle.pop_print.specs.declared.facts.Facts.{Facts}
use Rattle.pop_print.specs.Batches.{batch_line, batch_text, numbered_text, sample_line}
use Rattle.pop_print.specs.Output.{found_lines, pops_line, used_line}
use Rattle.job_subjects.specs.Made.{IsMade}
use Rattle.job_subjects.specs.StackFaults.{AreFew}
use Rattle.job_subjects.specs.Subjects.{IsSubjectOf, Subject, instance_over}
use Rattle.told_runs.specs.Asking.{asked_by}
use Rattle.told_runs.specs.Batches.{IsBatchOf}
use Rattle.told_runs.specs.Outcomes.{Outcome, Tells, status_of}
use Rattle.told_runs.specs.Outcomes.Outcome.{Batched}
use Rattle.top_call.specs.Answers.{ComesOf, IsAnswer, last_height, origin_for, wanted_by}
use Rattle.top_call.proofs.BatchEnds.{unstuck}
use Rattle.top_call.proofs.ByCommand.{by_line}
use Rattle.top_call.proofs.Lifting.{of_words}
use Rattle.top_call.proofs.MadeComes.{end_comes}
use Rattle.answer_laws.specs.TallerAnswers.{DifferInLastHeight, TallerAnswers, of_any_height}
use Rattle.answer_laws.proofs.KeyAnswers.{height_some, keyed_origin, of_low}
use Rattle.answer_laws.proofs.OneOutcome.{line_comes}
use Rattle.answer_laws.proofs.PrintedCounts.{none_left}
use Rattle.answer_laws.proofs.SubjectKinds.{HasFamily, same_subject, subject_family}
use Rattle.answer_laws.proofs.TallerAnswers.{end_answer, taller_end, taller_values}
use Rattle.answer_laws.proofs.ToldSubjects.{IsBatchOfSubject, ordered_end, ordered_extremal, quiet_line, quiet_ordered}

module _ (s : Subject) (family : HasFamily s) (extremal : IsExtremal s.family) (key : List ℕ) (low high : ℕ)
    (some : 0 < low) (le : low ≤ high) where
  -- the instances of both heights
  abbrev i : Instance
  i = instance_over (Keyed key 0 low) s

  abbrev j : Instance
  j = instance_over (Keyed key 0 high) s

  -- the end of a sample with no stuck event, over the lower stacks
  first_low : (n : ℕ) (end : End) → IsSampleEnd i n end → end.stuck ≡ []
      → IsFirstEnd (instance_over (Keyed key n low) s) end.cursors end.pops []
  first_low n end is none =
      subst (λ (l : List Event). IsFirstEnd (instance_over (Keyed key n low) s) end.cursors end.pops l) none is.first

  -- its values are the same over the taller ones
  values_alike : (n : ℕ) (end : End) → IsSampleEnd i n end → end.stuck ≡ []
      → values_at (stacks_for n j.stacks) end.cursors ≡ values_at (stacks_for n i.stacks) end.cursors
  values_alike n end is none =
      taller_values s family extremal key n low high some le end.cursors end.pops (first_low n end is none)

  -- and it is their end
  end_alike : (n : ℕ) (end : End) → IsSampleEnd i n end → end.stuck ≡ [] → IsSampleEnd j n end
  end_alike n end is none = record {
    first = subst (λ (l : List Event). IsFirstEnd (instance_over (Keyed key n high) s) end.cursors end.pops l) (sym none)
        (taller_end s family extremal key n low high some le end.cursors end.pops (first_low n end is none));
    over = record {
      count = is.over.count;
      within = λ v below. let less : cursor end.cursors v < low = is.over.within v below in omega (arith, less, le);
      values = record {
        are = is.over.values.are ∙ sym (values_alike n end is none);
        within = is.over.values.within;
      };
    };
  }

  -- so are all
  ends_alike : (count : ℕ) (ends : List End) → AreEnds i count ends
      → ((n : ℕ) (end : End) → slice_get ends n ≡ Some end → end.stuck ≡ []) → AreEnds j count ends
  ends_alike count ends are none = record {
    count_is = are.count_is;
    each = λ n end at. end_alike n end (are.each n end at) (none n end at);
  }

  -- the text of an end is the same
  text_alike : (facts : Facts) (n : ℕ) (end : End) → IsSampleEnd i n end → end.stuck ≡ []
      → numbered_text facts i (n, end) ≡ numbered_text facts j (n, end)
  text_alike facts n end is none =
      ap (λ (values : List ℕ). sample_line n
      ++ (found_lines facts s.family values end.stuck ++ used_line end.cursors ++ pops_line end.pops))
      (sym (values_alike n end is none))

  -- and so are those of all, from a number on
  texts_alike : (facts : Facts) (n : ℕ) (ends : List End)
      → ((k : ℕ) (end : End) → slice_get ends k ≡ Some end → IsSampleEnd i (n + k) end × (end.stuck ≡ []))
      → flat_map (numbered_text facts i) (enumerate_from n ends) ≡ flat_map (numbered_text facts j) (enumerate_from n ends)
  texts_alike facts n [] each = refl
  texts_alike facts n (end ∷ ends) each =
      let here : n + 0 ≡ n = omega arith in
      let first = each 0 end refl in
      ap₂ (λ (a b : List ℕ). a ++ b)
      (text_alike facts n end (subst (λ (k : ℕ). IsSampleEnd i k end) here first.0) first.1)
      (texts_alike facts (n + 1) ends (λ k other at.
      let on : n + suc k ≡ n + 1 + k = omega arith in
      let next = each (suc k) other at in
      (subst (λ (m : ℕ). IsSampleEnd i m other) on next.0, next.1)))

module _ (words others : List (List ℕ)) (ws : List Watcher) (key text out : List ℕ) (d : DifferInLastHeight words others)
    (has : Contains quiet d.job.command) (given : d.job.stacks ≡ Key key) where
  -- a batch whose samples are all there is one of theirs, and has the same text
  batch_answer : (facts : Facts) (k : Instance) (ends : List End) → IsBatchOfSubject d.job text facts k ends
      → Tells (Batched facts k ends) 0 out → IsAnswer others ws text 0 out
  batch_answer facts k ends of tells =
      let s : Subject = of.subject in
      let other : Job = d.other in
      let low : ℕ = last_height d.job in
      let high : ℕ = last_height other in
      let count : ℕ = of.batch.count in
      let some : 0 < low = height_some words d.job d.asks in
      let family : HasFamily s = subject_family d.job.command (wanted_by d.job) text s of.is in
      let extremal : IsExtremal s.family = ordered_extremal d.job.command (wanted_by d.job) text s of.ordered of.is in
      let origin : origin_for d.job ≡ Keyed (key_of key) 0 low = keyed_origin d.job key given in
      let given' : other.stacks ≡ Key key = sym (ap (λ (j : Job). j.stacks) d.same) ∙ given in
      let origin' : origin_for other ≡ Keyed (key_of key) 0 high = keyed_origin other key given' in
      let none : (n : ℕ) (end : End) → slice_get ends n ≡ Some end → end.stuck ≡ [] =
      λ n end at. none_left end.stuck (unstuck ends n end (sym tells.status_is) at) in
      let are : AreEnds (instance_over (Keyed (key_of key) 0 low) s) count ends =
      subst (λ o. AreEnds (instance_over o s) count ends) origin of.batch.are in
      let taller : AreEnds (instance_over (Keyed (key_of key) 0 high) s) count ends =
      ends_alike s family extremal (key_of key) low high some d.no_lower count ends are none in
      let texts = texts_alike s family extremal (key_of key) low high some d.no_lower s.facts 0 ends (λ n end at.
      let here : n ≡ 0 + n = omega arith in (
        subst (λ (m : ℕ). IsSampleEnd (instance_over (Keyed (key_of key) 0 low) s) m end) here (are.each n end at),
        none n end at,
      )) in
      let command : d.job.command ≡ other.command = ap (λ (j : Job). j.command) d.same in
      let counts : d.job.count ≡ other.count = ap (λ (j : Job). j.count) d.same in
      let has' = subst (Contains quiet) command has in
      let is : IsSubjectOf other.command (wanted_by other) text s =
      same_subject other.command (wanted_by (of_any_height other)) (wanted_by other) text s refl refl
      (subst (λ (j : Job). IsSubjectOf j.command (wanted_by j) text s) d.same
      (same_subject d.job.command (wanted_by d.job) (wanted_by (of_any_height d.job)) text s refl refl of.is)) in
      let i : Instance = instance_over (origin_for other) s in
      let o : Outcome = Batched s.facts i ends in
      let made : IsMade (wanted_by other) text s.facts i = record {
        subject = s;
        are = is;
        over = record {
          facts_are = refl;
          instance_is = refl;
          sound = subst (λ o. IsSound o s.weights) (sym origin') (record { rows = tt; light = of.sound.light });
          few = subst (λ c. AreFew c (length s.weights)) counts of.few;
        };
      } in
      let batch : IsBatchOf other.count i ends = record {
        count = count;
        asked_is = sym counts ∙ of.batch.asked_is;
        are = subst (λ q. AreEnds (instance_over q s) count ends) (sym origin') taller;
      } in
      let comes : ComesOf other ws text o =
      end_comes other other.command ws text s.facts i refl made o
      (ordered_end other.command (quiet_ordered other.command has') (asked_by other) ws s.facts i o (refl, refl, batch)) in (
        o,
        of_words others other ws text d.asks_other o (by_line other.command other ws text o
            (quiet_line other.command has') comes),
        record {
          status_is = tells.status_is;
          out_is = tells.out_is
              ∙ ap₂ (λ (f : Facts) (m : Instance). batch_text f m ends) of.facts_are
              (of.instance_is ∙ ap (λ q. instance_over q s) origin)
              ∙ ap (λ (l : List ℕ). batch_line (length ends) ++ l) texts
              ∙ ap (λ q. batch_text s.facts (instance_over q s) ends) (sym origin');
        },
      )

-- the law
pub taller_answers : TallerAnswers
taller_answers words others ws key text out d has given (o, outcome, tells) =
    let zero : status_of o ≡ 0 = sym tells.status_is in
    of_low d.job has ws text (λ q. Tells q 0 out → IsAnswer others ws text 0 out)
    (λ facts k c pops stuck a of.
    end_answer words others ws key text out d has given of.once facts k c pops stuck a of)
    (batch_answer words others ws key text out d has given) o
    (line_comes words d.job ws text o d.asks (quiet_line d.job.command has) outcome) (omega (arith, zero)) tells
