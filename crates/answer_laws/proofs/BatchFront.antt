-- Two batches, one of which asks for more samples. The ends of the smaller are the first ends of the larger, since
-- each batch has one list of ends. So the texts of the samples are the same.
use Rattle.std.proofs.Common.{◌≡◌, ◌⊎◌, ℕ, zero, suc, ◌+◌, ◌≤◌, List, [], ◌∷◌, ◌++◌, flat_map, length, take, drop, Some, slice_get, refl, sym, ap, ap₂, subst, ◌∙◌, arith}
use Rattle.std.specs.List.{enumerate_from}
use Rattle.std.proofs.lemmas.List.{length-take-le, take-append-drop}
use Rattle.std.proofs.lemmas.List.Concat.{flat_map-append}
use Rattle.std.proofs.lemmas.Option.{none-some, same_Some}
use Rattle.pop_model.specs.Instances.{Instance}
use Rattle.pop_batch.specs.Batches.{AreEnds}
use Rattle.pop_batch.proofs.OneBatch.{one_batch}
use Rattle.confluence_core.specs.declared.end.End.{End}
use Rattle.pop_words.specs.declared.job.Job.{Job}
use Rattle.pop_words.specs.CommandLines.{Asks}
use Rattle.pop_watch.specs.Telling.{Watcher}
use Rattle.pop_print.specs.declared.facts.Facts.{Facts}
use Rattle.pop_print.specs.Batches.{batch_line, batch_text, numbered_text}
use Rattle.job_subjects.specs.Subjects.{IsSubjectOf, Subject, instance_over}
use Rattle.told_runs.specs.Outcomes.{Outcome, status_of, text_of}
use Rattle.told_runs.specs.Outcomes.Outcome.{Refused, Extremal, Ended, Resampled, Rounded, Batched, Paused, Replayed}
use Rattle.top_call.specs.Answers.{ComesOf, origin_for, wanted_by}
use Rattle.top_call.proofs.BatchWords.{is_batched, counted_command, uncounted}
use Rattle.top_call.proofs.ReadCases.{no_replay}
use Rattle.answer_laws.specs.FirstSample.{of_one}
use Rattle.answer_laws.specs.BatchFront.{BatchFront}
use Rattle.answer_laws.proofs.FirstSample.{batched_line}
use Rattle.answer_laws.proofs.OneOutcome.{line_comes}
use Rattle.answer_laws.proofs.OneSubject.{one_subject}
use Rattle.answer_laws.proofs.RefusedOr.{not_low, refusal_not_low}
use Rattle.answer_laws.proofs.SubjectKinds.{same_subject}
use Rattle.answer_laws.proofs.ToldSubjects.{IsBatchOfSubject, batched_subject, ended_subject, ordered_extremal, resampled_made, rounded_made}

-- an outcome that is a batch, of as many samples as are asked for
pub record IsBatch (job : Job) (text : List ℕ) (count : ℕ) (o : Outcome) : Type 0 where
  pub facts : Facts
  pub instance : Instance
  pub ends : List End
  pub told : o ≡ Batched facts instance ends
  pub of : IsBatchOfSubject job text facts instance ends
  pub size : of.batch.count ≡ count

-- where a number of samples is asked for, what isn't refused is one
pub is_batch : (words : List (List ℕ)) (job : Job) (asks : Asks words job) (count : ℕ) → job.count ≡ Some count
    → (ws : List Watcher) (text : List ℕ) (o : Outcome) → ComesOf job ws text o
    → (status_of o ≡ 0) ⊎ (status_of o ≡ 1) → IsBatch job text count o
is_batch words job asks count is ws text (Refused r) h low = absurd (refusal_not_low r low)
is_batch words job asks count is ws text (Paused j w t i l) h low = absurd (not_low 10 (omega arith) low)
is_batch words job asks count is ws text (Replayed i c n k) h low = absurd (no_replay job ws text i c n k h)
is_batch words job asks count is ws text (Extremal n) (check, verdict) low =
    absurd (none-some count (sym (uncounted words job asks (ap is_batched check)) ∙ is))
is_batch words job asks count is ws text (Ended t i c n s a) h low =
    absurd (none-some count (sym (ended_subject job ws text t i c n s a h).once ∙ is))
is_batch words job asks count is ws text (Resampled t i l s a) h low =
    let by = (resampled_made job ws text t i l s a h).by in
    absurd (none-some count (sym (uncounted words job asks (ap is_batched by)) ∙ is))
is_batch words job asks count is ws text (Rounded t i c n s v) h low =
    let by = (rounded_made job ws text t i c n s v h).by in
    absurd (none-some count (sym (uncounted words job asks (ap is_batched by)) ∙ is))
is_batch words job asks count is ws text (Batched t i ends) h low =
    let of = batched_subject job ws text t i ends h in
    record {
      facts = t;
      instance = i;
      ends = ends;
      told = refl;
      of = of;
      size = same_Some _ _ (sym of.batch.asked_is ∙ is);
    }

-- the first of a list are numbered as they are in it
enumerate_front : {X : Type 0} (n : ℕ) (xs ys : List X)
    → enumerate_from n (xs ++ ys) ≡ enumerate_from n xs ++ enumerate_from (n + length xs) ys
enumerate_front {X} n [] ys = let same : n ≡ n + 0 = omega arith in ap (λ (k : ℕ). enumerate_from k ys) same
enumerate_front {X} n (x ∷ xs) ys =
    let same : n + 1 + length xs ≡ n + suc (length xs) = omega arith in
    ap (λ (l : List (ℕ × X)). (n, x) ∷ l)
    (enumerate_front (n + 1) xs ys
    ∙ ap (λ (k : ℕ). enumerate_from (n + 1) xs ++ enumerate_from k ys) same)

-- an end of the first is that of the list
taken_at : (few : ℕ) (ends : List End) (j : ℕ) (end : End) → slice_get (take few ends) j ≡ Some end
    → slice_get ends j ≡ Some end
taken_at zero ends j end at = absurd (cc)
taken_at (suc few) [] j end at = at
taken_at (suc few) (e ∷ ends) zero end at = at
taken_at (suc few) (e ∷ ends) (suc j) end at = taken_at few ends j end at

-- the first of the ends of a batch are those of a smaller one
fewer : (i : Instance) (few many : ℕ) (ends : List End) → few ≤ many → AreEnds i many ends → AreEnds i few (take few ends)
fewer i few many ends le are = record {
  count_is = let size = are.count_is in length-take-le few ends (omega (arith, le, size));
  each = λ j end at. are.each j end (taken_at few ends j end at);
}

-- the law
pub batch_front : BatchFront
batch_front words others ws text few many status status' out longer d le (o, h, tells) low (o', h', tells') low' =
    let line = batched_line d.job.command (counted_command words d.job d.asks few d.few_are) in
    let line' = batched_line d.other.command (counted_command others d.other d.asks_other many d.many_are) in
    let mine : IsBatch d.job text few o =
    is_batch words d.job d.asks few d.few_are ws text o (line_comes words d.job ws text o d.asks line h)
    (subst (λ n. (n ≡ 0) ⊎ (n ≡ 1)) tells.status_is low) in
    let theirs : IsBatch d.other text many o' =
    is_batch others d.other d.asks_other many d.many_are ws text o'
    (line_comes others d.other ws text o' d.asks_other line' h')
    (subst (λ n. (n ≡ 0) ⊎ (n ≡ 1)) tells'.status_is low') in
    let s : Subject = mine.of.subject in
    let one : Job = of_one d.job in
    let here : IsSubjectOf one.command (wanted_by one) text s =
    same_subject d.job.command (wanted_by d.job) (wanted_by one) text s refl refl mine.of.is in
    let there : IsSubjectOf one.command (wanted_by one) text theirs.of.subject =
    subst (λ (j : Job). IsSubjectOf j.command (wanted_by j) text theirs.of.subject) (sym d.same)
    (same_subject d.other.command (wanted_by d.other) (wanted_by (of_one d.other)) text theirs.of.subject refl refl
    theirs.of.is) in
    let same : theirs.of.subject ≡ s =
    one_subject one.command (wanted_by one) text theirs.of.subject s there here in
    let i : Instance = instance_over (origin_for d.job) s in
    let origins : origin_for d.other ≡ origin_for d.job = ap origin_for (sym d.same) in
    let moved : instance_over (origin_for d.other) theirs.of.subject ≡ i = ap₂ instance_over origins same in
    let all : AreEnds i many theirs.ends =
    subst (λ (j : Instance). AreEnds j many theirs.ends) moved
    (subst (λ (n : ℕ). AreEnds (instance_over (origin_for d.other) theirs.of.subject) n theirs.ends) theirs.size
    theirs.of.batch.are) in
    let some : AreEnds i few mine.ends =
    subst (λ (n : ℕ). AreEnds i n mine.ends) mine.size mine.of.batch.are in
    let ends : mine.ends ≡ take few theirs.ends =
    one_batch i few mine.ends (take few theirs.ends)
    (ordered_extremal d.job.command (wanted_by d.job) text s mine.of.ordered mine.of.is) some
    (fewer i few many theirs.ends le all) in
    let texts : ℕ → List End → List ℕ = λ n l. flat_map (numbered_text s.facts i) (enumerate_from n l) in
    let left : List End = drop few theirs.ends in
    let split : take few theirs.ends ++ left ≡ theirs.ends = take-append-drop few theirs.ends in
    let named : mine.facts ≡ s.facts = mine.of.facts_are in
    let named' : theirs.facts ≡ s.facts = theirs.of.facts_are ∙ ap (λ (t : Subject). t.facts) same in
    record {
      front = texts 0 mine.ends;
      rest = texts (0 + length mine.ends) left;
      out_is = tells.out_is ∙ ap text_of mine.told
          ∙ ap₂ (λ (t : Facts) (j : Instance). batch_text t j mine.ends) named mine.of.instance_is
          ∙ ap (λ (n : ℕ). batch_line n ++ texts 0 mine.ends) some.count_is;
      longer_is = tells'.out_is ∙ ap text_of theirs.told
          ∙ ap₂ (λ (t : Facts) (j : Instance). batch_text t j theirs.ends) named' (theirs.of.instance_is ∙ moved)
          ∙ ap₂ (λ (n : ℕ) (l : List End). batch_line n ++ texts 0 l) all.count_is
          (sym split ∙ ap (λ (l : List End). l ++ left) (sym ends))
          ∙ ap (λ (l : List ℕ). batch_line many ++ l)
          (ap (flat_map (numbered_text s.facts i)) (enumerate_front 0 mine.ends left)
          ∙ flat_map-append (numbered_text s.facts i) (enumerate_from 0 mine.ends)
          (enumerate_from (0 + length mine.ends) left));
    }
