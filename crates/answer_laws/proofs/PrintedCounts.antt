-- The theorem of exactness for printed bytes. Arguments that print a sample have an answer with a sample like it
-- (LikeSamples). The exchange with another sample, with the values of loops copied, makes rows for which the arguments
-- print that one, and can be reversed.
use Rattle.std.proofs.Common.{◌≡◌, ℕ, ◌<◌, List, [], ◌∷◌, ◌++◌, ◌*◌, length, map, codes, refl, sym, ap, subst, ◌∙◌, arith, append_assoc, All, Contains}
use Rattle.std.proofs.lemmas.List.{append_cancel_left}
use Rattle.std.proofs.lemmas.Option.{none-some}
use Rattle.pop_model.specs.Stacks.Origin.{Given as GivenRows}
use Rattle.pop_model.specs.Popping.{values_at}
use Rattle.pop_model.specs.Families.{Event}
use Rattle.pop_model.specs.Instances.{Instance}
use Rattle.pop_model.specs.Extremal.{IsExtremal}
use Rattle.pop_model.specs.Runs.{IsFirstEnd}
use Rattle.pop_model.specs.Text.{line}
use Rattle.pop_samples.specs.Frames.{AreRows, Frame, IsFrame, IsSampleOf, Rows, over}
use Rattle.pop_samples.specs.Exchange.{SamplesAt, entries_under, exchange}
use Rattle.pop_samples.specs.Weights.{sample_weight, weight_of}
use Rattle.pop_samples.specs.ExactLaws.{Exchanges, AreProportional}
use Rattle.pop_samples.proofs.ExactCounts.{Swaps, one_place}
use Rattle.pop_samples.proofs.Matching.{Alike, Matches, alike}
use Rattle.pop_samples.proofs.ExchangedSamples.{exchange_leaves}
use Rattle.pop_samples.proofs.Finishing.{first_finishes_by}
use Rattle.pop_samples.proofs.FrameRows.{suits_end}
use Rattle.pop_samples.specs.Lists.{AreAll}
use Rattle.pop_words.specs.declared.job.Job.{Job}
use Rattle.pop_words.specs.Options.{quiet}
use Rattle.pop_words.proofs.GivenAlone.{asked_alone}
use Rattle.pop_watch.specs.Telling.{Watcher}
use Rattle.pop_print.specs.declared.facts.Facts.{Facts}
use Rattle.pop_print.specs.declared.facts.Facts.TheVariants.{Made as MadeFacts}
use Rattle.pop_print.specs.Output.{pops_line, sample_lines, used_line}
use Rattle.job_subjects.specs.Subjects.{Subject, instance_over, IsSubjectOf}
use Rattle.told_runs.specs.Names.{names_for}
use Rattle.told_runs.specs.Outcomes.{Outcome, end_status, run_text, status_of, text_of, Tells}
use Rattle.told_runs.specs.Outcomes.Outcome.{Ended}
use Rattle.told_runs.specs.Tellings.{Telling, telling_text}
use Rattle.top_call.specs.Answers.{wanted_by, ComesOf, IsOutcome}
use Rattle.answer_laws.specs.ExactAnswers.{IsSampledBy, frame_of, frame_over, over_rows}
use Rattle.answer_laws.specs.ExactOutputs.{AreTelling, AskOver, ExactOutputs, PrintsOver}
use Rattle.answer_laws.proofs.ToldSubjects.{IsEndOfSubject, ended_subject, ordered_extremal, quiet_line, quiet_ordered}
use Rattle.answer_laws.proofs.ExactAnswers.{exchanged_answers, of_rows, values_are}
use Rattle.answer_laws.proofs.KeyAnswers.{of_low}
use Rattle.answer_laws.proofs.OneOutcome.{line_comes}
use Rattle.answer_laws.proofs.OneSubject.{one_subject}
use Rattle.answer_laws.proofs.SubjectKinds.{subject_family, subject_frame}
use Rattle.drawn_samples.proofs.Finished.{sample_there}
use Rattle.answer_laws.proofs.LikeSamples.{CarriesOf, IsLike, carries, carry, like_lines, lines_tell}

-- ---- samples at ends

-- rows finish with a sample
pub sample_at : (f : Frame) → IsFrame f → (w c : List ℕ) (rows : Rows) → SamplesAt f w c rows → IsSampleOf f w
sample_at f frame w c rows s =
    sample_there f frame w c rows s.shape (suits_end f frame rows s.shape c s.finishes) s.entries s.finishes.1.finished

-- ---- what the text of an end begins with

-- a sample, the cursors, the pops, and what is told behind these
behind : (a u p t : List ℕ) → ((a ++ u) ++ p) ++ t ≡ a ++ (u ++ (p ++ t))
behind a u p t = append_assoc (a ++ u) p t ∙ append_assoc a u (p ++ t)

-- the text of a sample begins with its lines
begins_so : (facts : Facts) (i : Instance) (c : List ℕ) (pops : ℕ) (a : Telling) → AreTelling facts
    → (more : List ℕ) × (run_text facts i c pops [] a
    ≡ (line (codes "s SAMPLE") ++ sample_lines facts (values_at i.stacks c)) ++ more)
begins_so (MadeFacts side) i c pops a tells = absurd tells
begins_so facts i c pops a tells = (
  used_line c ++ (pops_line pops ++ telling_text (names_for facts) i a),
  behind (line (codes "s SAMPLE") ++ sample_lines facts (values_at i.stacks c)) (used_line c) (pops_line pops)
      (telling_text (names_for facts) i a),
)

-- an end with status 0 has no stuck event
pub none_left : (stuck : List Event) → end_status stuck ≡ 0 → stuck ≡ []
none_left [] zero = refl
none_left (e ∷ stuck) zero = absurd (omega (arith, zero))

module _ (job : Job) (text : List ℕ) (s : Subject) (has : Contains quiet job.command)
    (is : IsSubjectOf job.command (wanted_by job) text s) (tells : AreTelling s.facts) (heights : List ℕ)
    (count : length heights ≡ length s.weights) (some : All (λ h. 0 < h) heights) (words : Rows → List (List ℕ))
    (ws : List Watcher) (ask : AskOver job s.weights heights words) where
  -- the frame of these heights
  abbrev pub f : Frame
  f = frame_over s heights

  -- its family is extremal
  pub extremal : IsExtremal s.family
  extremal = ordered_extremal job.command (wanted_by job) text s (quiet_ordered job.command has) is

  -- and it is one
  pub frame : IsFrame f
  frame = subject_frame s (subject_family job.command (wanted_by job) text s is) heights count some

  -- rows whose words are answered by this sample, at these cursors
  abbrev pub Answered : List ℕ → List ℕ → Rows → Type 0
  Answered w c rows =
      AreRows s.weights heights rows
      × ((pops : ℕ) × (a : Telling) × IsSampledBy (words rows) ws text s.facts w c pops a)

  -- the instance is that of rows, and its one-thread run ends so
  abbrev pub EndsRows : Rows → Instance → List ℕ → ℕ → List Event → Type 0
  EndsRows rows i c pops stuck = (i ≡ over f rows) × IsFirstEnd (over f rows) c pops stuck

  -- an end of what is sampled over rows is that of the rows
  end_of_rows : (rows : Rows) (facts : Facts) (i : Instance) (c : List ℕ) (pops : ℕ) (stuck : List Event) (a : Telling)
      → IsEndOfSubject (over_rows job rows) ws text facts i c pops stuck a
      → (facts ≡ s.facts) × EndsRows rows i c pops stuck
  end_of_rows rows facts i c pops stuck a of =
      let same : of.subject ≡ s =
      one_subject job.command (wanted_by (over_rows job rows)) text of.subject s of.is (of_rows job rows text s is) in (
        of.facts_are ∙ ap (λ (t : Subject). t.facts) same,
        (
          of.instance_is ∙ ap (instance_over (GivenRows rows)) same,
          subst (λ (t : Subject). IsFirstEnd (instance_over (GivenRows rows) t) c pops stuck) same of.end,
        ),
      )

  -- what words over rows are answered by comes of the job
  pub comes_of_rows : (rows : Rows) → AreRows s.weights heights rows → (o : Outcome) → IsOutcome (words rows) ws text o
      → ComesOf (over_rows job rows) ws text o
  comes_of_rows rows shape o outcome =
      line_comes (words rows) (over_rows job rows) ws text o (ask rows shape) (quiet_line job.command has) outcome

  -- so a sample that answers them is at the end of the rows
  pub answered_end : (w c : List ℕ) (rows : Rows) → AreRows s.weights heights rows → (pops : ℕ) (a : Telling)
      → (by : IsSampledBy (words rows) ws text s.facts w c pops a) → EndsRows rows by.instance c pops []
  answered_end w c rows shape pops a by =
      (end_of_rows rows s.facts by.instance c pops [] a
      (ended_subject (over_rows job rows) ws text s.facts by.instance c pops [] a
      (comes_of_rows rows shape (Ended s.facts by.instance c pops [] a) by.outcome))).1

  -- rows that are answered so finish with the sample
  pub samples_there : (w c : List ℕ) (rows : Rows) → Answered w c rows → SamplesAt f w c rows
  samples_there w c rows (shape, (pops, a, by)) =
      let known : EndsRows rows by.instance c pops [] = answered_end w c rows shape pops a by in
      let there : by.instance ≡ over f rows = known.0 in
      let end : IsFirstEnd (over f rows) c pops [] = known.1 in
      let log = first_finishes_by (over f rows) c pops end in
      let size : length c ≡ length rows = (suits_end f frame rows shape c (end.run.0, log)).size in
      record {
        shape = shape;
        finishes = (end.run.0, log);
        entries = sym (values_are s.weights rows c size)
            ∙ ap (λ (i : Instance). values_at i.stacks c) (sym there) ∙ by.sample;
      }

  -- another sample may be exchanged for theirs
  swap : (w x : List ℕ) → IsSampleOf f x → (c : List ℕ) (rows : Rows) → Answered w c rows
      → Swaps f (Answered x) w x c rows
  swap w x is_x c rows (shape, (pops, a, by)) =
      let at : SamplesAt f w c rows = samples_there w c rows (shape, (pops, a, by)) in
      let to : Exchanges f w x c rows = exchange_leaves f frame w x c rows at is_x in
      let known : EndsRows rows by.instance c pops [] = answered_end w c rows shape pops a by in
      let own : IsSampleOf (frame_of (over f rows) (map length rows)) x =
      record { count = is_x.count; values = is_x.values; sample = is_x.sample } in
      let new : Rows = exchange rows c x in
      let there = exchanged_answers job rows (words rows) (words new) ws text s.facts by.instance c pops a x (ask rows shape)
      (ask new to.samples.shape) by.outcome
      (subst (λ (i : Instance). IsSampleOf (frame_of i (map length rows)) x) (sym known.0) own) in
      record { there = (to.samples.shape, (pops, a, there)); back = to.back; weight = to.weight }

  -- rows are answered at one place, by one sample
  pub one_end : (u v c d : List ℕ) (rows : Rows) → Answered u c rows → Answered v d rows → (c ≡ d) × (u ≡ v)
  one_end u v c d rows a b =
      let at = samples_there u c rows a in
      let at' = samples_there v d rows b in
      let place : c ≡ d = one_place (over f rows) extremal c d at.finishes at'.finishes in
      (place, sym at.entries ∙ ap (entries_under rows) place ∙ at'.entries)

  -- rows whose words print the lines of a sample: they are answered by one like it
  abbrev pub Found : List ℕ → Rows → Type 0
  Found w rows =
      (c : List ℕ) × (u : List ℕ) × IsSampleOf f u × IsLike s.facts u w × Answered u c rows

  -- words that are answered so print it
  pub to_prints : (w : List ℕ) (rows : Rows) → Found w rows → PrintsOver s.weights heights words ws text s.facts w rows
  to_prints w rows (c, u, is_u, like, (shape, (pops, a, by))) =
      let front = begins_so s.facts by.instance c pops a tells in
      let head : List ℕ = line (codes "s SAMPLE") in
      record {
        shape = shape;
        prints = record {
          out = run_text s.facts by.instance c pops [] a;
          more = front.0;
          answer = (
            Ended s.facts by.instance c pops [] a,
            by.outcome,
            record { status_is = refl; out_is = refl },
          );
          out_is = front.1 ∙ ap (λ (v : List ℕ). (head ++ sample_lines s.facts v) ++ front.0) by.sample
              ∙ ap (λ (l : List ℕ). (head ++ l) ++ front.0) (like_lines s.facts u w like);
        };
      }

  -- an end with this output is answered so
  from_end : (w : List ℕ) (rows : Rows) → IsSampleOf f w → AreRows s.weights heights rows → (out more : List ℕ)
      → out ≡ (line (codes "s SAMPLE") ++ sample_lines s.facts w) ++ more
      → (facts : Facts) (i : Instance) (c : List ℕ) (pops : ℕ) (stuck : List Event) (a : Telling)
      → IsOutcome (words rows) ws text (Ended facts i c pops stuck a)
      → IsEndOfSubject (over_rows job rows) ws text facts i c pops stuck a → end_status stuck ≡ 0
      → out ≡ run_text facts i c pops stuck a → Found w rows
  from_end w rows is_w shape out more out_is facts i c pops stuck a outcome of zero text_is =
      let none : stuck ≡ [] = none_left stuck zero in
      let known = end_of_rows rows facts i c pops stuck a of in
      let named : facts ≡ s.facts = known.0 in
      let told : Ended facts i c pops stuck a ≡ Ended s.facts i c pops [] a =
      ap (λ (t : Facts). Ended t i c pops stuck a) named ∙ ap (λ (l : List Event). Ended s.facts i c pops l a) none in
      let outcome' = subst (IsOutcome (words rows) ws text) told outcome in
      let v : List ℕ = values_at i.stacks c in
      let mine : Answered v c rows =
      (shape, (pops, a, record { instance = i; outcome = outcome'; sample = refl })) in
      let is_v : IsSampleOf f v = sample_at f frame v c rows (samples_there v c rows mine) in
      let front = begins_so s.facts i c pops a tells in
      let head : List ℕ = line (codes "s SAMPLE") in
      let whole : (head ++ sample_lines s.facts v) ++ front.0 ≡ (head ++ sample_lines s.facts w) ++ more =
      sym front.1 ∙ sym (ap text_of told) ∙ sym text_is ∙ out_is in
      let lines : sample_lines s.facts v ++ front.0 ≡ sample_lines s.facts w ++ more =
      append_cancel_left head (sample_lines s.facts v ++ front.0) (sample_lines s.facts w ++ more)
      (sym (append_assoc head (sample_lines s.facts v) front.0) ∙ whole
      ∙ append_assoc head (sample_lines s.facts w) more) in
      let like : IsLike s.facts v w =
      lines_tell job.command (wanted_by job) text s is tells heights v w front.0 more (is_v, is_w, lines) in
      (c, v, is_v, like, mine)

  -- so are words that print it
  pub from_prints : (w : List ℕ) (rows : Rows) → IsSampleOf f w → PrintsOver s.weights heights words ws text s.facts w rows
      → Found w rows
  from_prints w rows is_w p =
      let (o, outcome, tell) = p.prints.answer in
      let zero : status_of o ≡ 0 = sym tell.status_is in
      of_low (over_rows job rows) has ws text
      (λ q. IsOutcome (words rows) ws text q → Tells q 0 p.prints.out → Found w rows)
      (λ facts i c pops stuck a of outcome tell.
      from_end w rows is_w p.shape p.prints.out p.prints.more p.prints.out_is facts i c pops stuck a outcome of
      (sym tell.status_is) tell.out_is) (λ facts i ends of outcome tell.
      let alone = (asked_alone (words rows) (over_rows job rows) (ask rows p.shape) rows refl).1 in
      absurd (none-some of.batch.count (sym alone ∙ of.batch.asked_is))) o (comes_of_rows rows p.shape o outcome)
      (omega (arith, zero)) outcome tell

  -- rows that are answered by a sample like w, and those that the exchange makes of them for x
  abbrev Pair : List ℕ → List ℕ → Rows → Rows → Type 0
  Pair w x r t =
      (c : List ℕ) × (u : List ℕ) × IsSampleOf f u × IsLike s.facts u w × Answered u c r
      × Answered (carry s.facts u x) c t × (t ≡ exchange r c (carry s.facts u x)) × (r ≡ exchange t c u)
      × (weight_of s.weights t * sample_weight s.weights u
      ≡ weight_of s.weights r * sample_weight s.weights (carry s.facts u x))

  -- such rows have a partner
  partner : (w x : List ℕ) → CarriesOf s heights w x → (r : Rows) → Found w r
      → (t : Rows) × Found x t × Pair w x r t
  partner w x to r (c, u, is_u, like, at) =
      let v : List ℕ = carry s.facts u x in
      let is_v : IsSampleOf f v = to.made u is_u like in
      let swapped : Swaps f (Answered v) u v c r = swap u v is_v c r at in
      let t : Rows = exchange r c v in (
        t,
        (c, v, is_v, to.like u is_u like, swapped.there),
        (c, u, is_u, like, at, swapped.there, refl, sym swapped.back, swapped.weight),
      )

  -- and are one's partner
  partner_of : (w x : List ℕ) → CarriesOf s heights w x → CarriesOf s heights x w → (t : Rows) → Found x t
      → (r : Rows) × Found w r × Pair w x r t
  partner_of w x to fro t (c, v, is_v, like, at) =
      let u : List ℕ = carry s.facts v w in
      let is_u : IsSampleOf f u = fro.made v is_v like in
      let like_u : IsLike s.facts u w = fro.like v is_v like in
      let swapped : Swaps f (Answered u) v u c t = swap v u is_u c t at in
      let r : Rows = exchange t c u in
      let again : carry s.facts u x ≡ v = fro.back v is_v like in (
        r,
        (c, u, is_u, like_u, swapped.there),
        (
          c,
          u,
          is_u,
          like_u,
          swapped.there,
          subst (λ (k : List ℕ). Answered k c t) (sym again) at,
          sym swapped.back ∙ ap (exchange r c) (sym again),
          refl,
          sym swapped.weight ∙ ap (λ (k : List ℕ). weight_of s.weights r * sample_weight s.weights k) (sym again),
        ),
      )

  -- each has one at most, with the weight in proportion
  matches : (w x : List ℕ) → CarriesOf s heights w x
      → Matches (Pair w x) (weight_of s.weights) (sample_weight s.weights w) (sample_weight s.weights x)
  matches w x to = record {
    weight = λ r t (c, u, is_u, like, at, there, made, back, weight).
        to.weight u is_u like (weight_of s.weights t) (weight_of s.weights r) weight;
    once = λ r t z (c, u, is_u, like, at, there, made, back, weight) (d, v, is_v, like_v, at', there', made', back', weight').
        let one = one_end u v c d r at at' in
        made ∙ ap (λ (k : List ℕ). exchange r k (carry s.facts u x)) one.0
        ∙ ap (λ (k : List ℕ). exchange r d (carry s.facts k x)) one.1 ∙ sym made';
    one = λ r q t (c, u, is_u, like, at, there, made, back, weight) (d, v, is_v, like_v, at', there', made', back', weight').
        let one = one_end (carry s.facts u x) (carry s.facts v x) c d t there there' in
        let same : u ≡ v = sym (to.back u is_u like) ∙ ap (λ (k : List ℕ). carry s.facts k w) one.1 ∙ to.back v is_v like_v in
        back ∙ ap (λ (k : List ℕ). exchange t k u) one.0 ∙ ap (exchange t d) same ∙ sym back';
  }

  -- so there are as many for the one as for the other, by weight
  counts : (w x : List ℕ) → IsSampleOf f w → IsSampleOf f x → (all others : List Rows)
      → AreAll (PrintsOver s.weights heights words ws text s.facts w) all
      → AreAll (PrintsOver s.weights heights words ws text s.facts x) others → AreProportional f w x all others
  counts w x is_w is_x all others mine theirs =
      let to : CarriesOf s heights w x = carries job.command (wanted_by job) text s is tells heights w x is_w is_x in
      let fro : CarriesOf s heights x w = carries job.command (wanted_by job) text s is tells heights x w is_x is_w in
      let both : Alike (weight_of s.weights) (sample_weight s.weights w) (sample_weight s.weights x) all others =
      alike (Pair w x) (weight_of s.weights) (sample_weight s.weights w) (sample_weight s.weights x) (matches w x to) all
      others mine.differ theirs.differ
      (λ r there. let p = partner w x to r (from_prints w r is_w ((mine.exact r).0 there)) in
      (p.0, (theirs.exact p.0).1 (to_prints x p.0 p.1), p.2))
      (λ t there. let p = partner_of w x to fro t (from_prints x t is_x ((theirs.exact t).0 there)) in
      (p.0, (mine.exact p.0).1 (to_prints w p.0 p.1), p.2)) in
      record { count = both.size; weight = both.total }

-- the law of runs
pub exact_outputs : ExactOutputs
exact_outputs job text s heights words ws has is tells count some =
    counts job text s has is tells heights count some words ws
