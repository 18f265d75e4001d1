-- What the text of a batch shows: the text of each sample, after its number, shows what the text of its end shows.
use Rattle.std.proofs.Common.{inl, inr, ◌≡◌, ◌⊎◌, ℕ, zero, suc, ◌+◌, true, List, [], ◌∷◌, ◌++◌, length, flat_map, slice_get, Some, refl, sym, ap, ap₂, subst, ◌∙◌, arith}
use Rattle.std.specs.List.{enumerate_from}
use Rattle.std.proofs.lemmas.Bool.{false≢true}
use Rattle.std.proofs.lemmas.Option.{none-some, same_Some}
use Rattle.pop_model.specs.Stacks.{Origin, origin_for as origin_of_sample}
use Rattle.pop_model.specs.Stacks.Origin.{Given, Keyed}
use Rattle.pop_model.specs.Families.{Event}
use Rattle.pop_model.specs.Instances.{Instance, instance_for}
use Rattle.pop_model.specs.Runs.{IsFirstEnd}
use Rattle.confluence_core.specs.declared.end.End.{End}
use Rattle.pop_stacks.specs.Faults.{IsSound}
use Rattle.pop_words.specs.declared.command.Command.{Command}
use Rattle.pop_words.specs.declared.command.Command.TheVariants.{Formula, Orient, Tree}
use Rattle.pop_words.specs.declared.job.Job.{Job}
use Rattle.pop_words.specs.CommandLines.{Asks}
use Rattle.pop_watch.specs.Telling.{Watcher}
use Rattle.pop_print.specs.declared.facts.Facts.{Facts}
use Rattle.pop_print.specs.Output.{full_text, end_text}
use Rattle.pop_print.specs.Batches.{batch_line, sample_line, numbered_text, batch_text}
use Rattle.told_runs.specs.Batches.{batch_status}
use Rattle.told_runs.specs.Outcomes.Outcome.{Batched}
use Rattle.job_subjects.specs.declared.wanted.Wanted.{Wanted}
use Rattle.job_subjects.specs.Subjects.{Subject, instance_over, IsSubjectOf}
use Rattle.top_call.specs.Answers.{wanted_by, ComesOf, origin_for}
use Rattle.answer_laws.specs.Shown.{ShowsSample, ShowsExhausted, ShowsEnd, ShowsEach, ShowsSamples, ShowsStuckSamples}
use Rattle.top_call.proofs.BatchWords.{is_batched, counted_command}
use Rattle.top_call.proofs.BatchEnds.{unstuck, a_stuck_one}
use Rattle.answer_laws.proofs.ToldSubjects.{IsBatchOfSubject, batched_subject}
use Rattle.answer_laws.proofs.ShownSubjects.{first_over, subject_shows}
use Rattle.answer_laws.proofs.ShownBehind.{as_told}

-- the text of the end of sample j
abbrev text_at : Facts → Instance → ℕ → End → List ℕ
text_at facts i j end = full_text facts (instance_for j i) end.cursors end.pops end.stuck

-- the texts of samples, from sample n on
abbrev texts_from : Facts → Instance → ℕ → List End → List (List ℕ)
texts_from facts i n [] = []
texts_from facts i n (end ∷ ends) = text_at facts i n end ∷ texts_from facts i (n + 1) ends

-- there are as many
texts_size : (facts : Facts) (i : Instance) (n : ℕ) (ends : List End) → length (texts_from facts i n ends) ≡ length ends
texts_size facts i n [] = refl
texts_size facts i n (end ∷ ends) = ap (λ k. suc k) (texts_size facts i (n + 1) ends)

-- behind their numbers they are the text
texts_numbered : (facts : Facts) (i : Instance) (n : ℕ) (ends : List End)
    → flat_map (numbered_text facts i) (enumerate_from n ends)
    ≡ flat_map (λ p. sample_line p.0 ++ p.1) (enumerate_from n (texts_from facts i n ends))
texts_numbered facts i n [] = refl
texts_numbered facts i n (end ∷ ends) =
    ap (λ l. (sample_line n ++ text_at facts i n end) ++ l) (texts_numbered facts i (n + 1) ends)

-- each text is that of an end
record IsTextAt (facts : Facts) (i : Instance) (n j : ℕ) (ends : List End) (t : List ℕ) : Type 0 where
  end : End
  at : slice_get ends j ≡ Some end
  is : t ≡ text_at facts i (n + j) end

text_is : (facts : Facts) (i : Instance) (n : ℕ) (ends : List End) (j : ℕ) (t : List ℕ)
    → slice_get (texts_from facts i n ends) j ≡ Some t → IsTextAt facts i n j ends t
text_is facts i n [] j t at = absurd (none-some t at)
text_is facts i n (end ∷ ends) zero t at = record {
  end = end;
  at = refl;
  is = sym (same_Some (text_at facts i n end) t at) ∙ ap (λ k. text_at facts i k end) (omega arith);
}
text_is facts i n (end ∷ ends) (suc j) t at =
    let later = text_is facts i (n + 1) ends j t at in
    record {
      end = later.end;
      at = later.at;
      is = later.is ∙ ap (λ k. text_at facts i k later.end) (omega arith);
    }

-- and each end has one
text_of_end : (facts : Facts) (i : Instance) (n : ℕ) (ends : List End) (j : ℕ) (end : End) → slice_get ends j ≡ Some end
    → slice_get (texts_from facts i n ends) j ≡ Some (text_at facts i (n + j) end)
text_of_end facts i n [] j end at = absurd (none-some end at)
text_of_end facts i n (e ∷ ends) zero end at =
    ap (λ (x : End). Some (text_at facts i n x)) (same_Some e end at)
    ∙ ap (λ k. Some (text_at facts i k end)) (omega arith)
text_of_end facts i n (e ∷ ends) (suc j) end at =
    text_of_end facts i (n + 1) ends j end at ∙ ap (λ k. Some (text_at facts i k end)) (omega arith)

-- stacks of another sample are as sound
sound_for : (j : ℕ) (origin : Origin) (weights : List (List ℕ)) → IsSound origin weights
    → IsSound (origin_of_sample j origin) weights
sound_for j (Given rows) weights sound = sound
sound_for j (Keyed key sample height) weights sound = record { rows = tt; light = sound.light }

-- of a command that has batches an end is told in full
pub in_full : (command : Command) (w : Wanted) (text : List ℕ) (s : Subject) (i : Instance) (c : List ℕ) (pops : ℕ)
    (stuck : List Event) → is_batched command ≡ true → IsSubjectOf command w text s
    → end_text s.facts i c pops stuck ≡ full_text s.facts i c pops stuck
in_full Formula w text s i c pops stuck batched is =
    subst (λ (t : Subject). end_text t.facts i c pops stuck ≡ full_text t.facts i c pops stuck) (sym is.are.is) refl
in_full Orient w text s i c pops stuck batched is =
    subst (λ (t : Subject). end_text t.facts i c pops stuck ≡ full_text t.facts i c pops stuck) (sym is.are.is) refl
in_full Tree w text s i c pops stuck batched is =
    subst (λ (t : Subject). end_text t.facts i c pops stuck ≡ full_text t.facts i c pops stuck) (sym is.are.is) refl
in_full command w text s i c pops stuck batched is = absurd (false≢true batched)

-- what the text of a sample shows
sample_shows : (job : Job) (text : List ℕ) (facts : Facts) (i : Instance) (ends : List End)
    → is_batched job.command ≡ true → (of : IsBatchOfSubject job text facts i ends) → (j : ℕ) (end : End)
    → slice_get ends j ≡ Some end
    → ShowsEnd job.command job (origin_of_sample j (origin_for job)) text end.stuck (text_at facts i j end)
sample_shows job text facts i ends batched of j end at =
    let k : Command = job.command in
    let origin : Origin = origin_of_sample j (origin_for job) in
    let c : List ℕ = end.cursors in
    let stuck : List Event = end.stuck in
    let s : Subject = of.subject in
    let first : IsFirstEnd (instance_over origin s) c end.pops stuck = (of.batch.are.each j end at).first in
    let own : ShowsEnd k job origin text stuck (end_text s.facts (instance_over origin s) c end.pops stuck) =
    subject_shows k job origin text s of.is c end.pops stuck
    (first_over origin s c end.pops stuck (sound_for j (origin_for job) s.weights of.sound) first) in
    let full : ShowsEnd k job origin text stuck (full_text s.facts (instance_over origin s) c end.pops stuck) =
    subst (ShowsEnd k job origin text stuck)
    (in_full k (wanted_by job) text s (instance_over origin s) c end.pops stuck batched of.is) own in
    subst (λ t. ShowsEnd k job origin text stuck (text_at t i j end)) (sym of.facts_are)
    (subst (λ n. ShowsEnd k job origin text stuck (text_at s.facts n j end)) (sym of.instance_is) full)

-- the text of a batch, of which each shows what the text of its end does
abbrev batch_shows : (facts : Facts) (i : Instance) (ends : List End) (count : ℕ) (Shows : ℕ → List ℕ → Type 0)
    → length ends ≡ count
    → ((j : ℕ) (end : End) → slice_get ends j ≡ Some end → Shows j (text_at facts i j end))
    → ShowsEach count Shows (batch_text facts i ends)
batch_shows facts i ends count Shows size shows = record {
  texts = texts_from facts i 0 ends;
  count_is = texts_size facts i 0 ends ∙ size;
  out_is = ap₂ (λ n l. batch_line n ++ l) size (texts_numbered facts i 0 ends);
  each = λ j t at. let of = text_is facts i 0 ends j t at in
      subst (Shows j) (ap (λ k. text_at facts i k of.end) (omega arith) ∙ sym of.is) (shows j of.end of.at);
}

-- a sample or a stuck end
either : (command : Command) (job : Job) (origin : Origin) (text : List ℕ) (stuck : List Event) (out : List ℕ)
    → ShowsEnd command job origin text stuck out
    → ShowsExhausted command job origin text out ⊎ ShowsSample command job text out
either command job origin text [] out h = inr h
either command job origin text (e ∷ stuck) out h = inl h

-- a batch with status 0 shows as many samples as are asked for
pub batch_samples : (words : List (List ℕ)) (job : Job) → Asks words job → (ws : List Watcher) (text : List ℕ)
    (facts : Facts) (i : Instance) (ends : List End) → ComesOf job ws text (Batched facts i ends)
    → batch_status ends ≡ 0 → ShowsSamples job.count job text (batch_text facts i ends)
batch_samples words job asks ws text facts i ends h is =
    let of = batched_subject job ws text facts i ends h in
    let batched = counted_command words job asks of.batch.count of.batch.asked_is in
    let Shows : ℕ → List ℕ → Type 0 = λ j t. ShowsSample job.command job text t in
    subst (λ k. ShowsSamples k job text (batch_text facts i ends)) (sym of.batch.asked_is)
    (batch_shows facts i ends of.batch.count Shows of.batch.are.count_is
    (λ j end at. as_told 0 job.command job (origin_of_sample j (origin_for job)) text end.stuck (text_at facts i j end)
    (unstuck ends j end is at) (sample_shows job text facts i ends batched of j end at)))

-- and one with status 1 a stuck end
pub batch_exhausted : (words : List (List ℕ)) (job : Job) → Asks words job → (ws : List Watcher) (text : List ℕ)
    (facts : Facts) (i : Instance) (ends : List End) → ComesOf job ws text (Batched facts i ends)
    → batch_status ends ≡ 1 → ShowsStuckSamples job.count job text (batch_text facts i ends)
batch_exhausted words job asks ws text facts i ends h is =
    let of = batched_subject job ws text facts i ends h in
    let batched = counted_command words job asks of.batch.count of.batch.asked_is in
    let Shows : ℕ → List ℕ → Type 0 =
    λ j t. ShowsExhausted job.command job (origin_of_sample j (origin_for job)) text t in
    let Others : ℕ → List ℕ → Type 0 = λ j t. ShowsSample job.command job text t in
    let (j, end, at, stuck) = a_stuck_one ends is in
    subst (λ k. ShowsStuckSamples k job text (batch_text facts i ends)) (sym of.batch.asked_is) (record {
      all = batch_shows facts i ends of.batch.count (λ k t. Shows k t ⊎ Others k t) of.batch.are.count_is
          (λ k e there. either job.command job (origin_of_sample k (origin_for job)) text e.stuck (text_at facts i k e)
          (sample_shows job text facts i ends batched of k e there));
      some = (
        j,
        text_at facts i j end,
        text_of_end facts i 0 ends j end at ∙ ap (λ k. Some (text_at facts i k end)) (omega arith),
        as_told 1 job.command job (origin_of_sample j (origin_for job)) text end.stuck (text_at facts i j end) stuck
            (sample_shows job text facts i ends batched of j end at),
      );
    })
