-- Of all rows of given heights those are kept for which the arguments print a sample: it is decidable for each how its
-- run ends, and what is printed.
use Rattle.std.proofs.Common.{inl, inr, ◌≡◌, ◌⊎◌, ℕ, ◌<◌, List, [], ◌++◌, length, if◌then◌else◌, Option, None, Some, All, Contains, refl, sym, ap, subst, ◌∙◌, arith}
use Rattle.std.proofs.lemmas.Bool.{cases_lt}
use Rattle.pop_model.specs.Logs.{IsLegal, LogRecord}
use Rattle.pop_model.specs.Runs.{IsFirstEnd, start_of}
use Rattle.pop_model.proofs.OneRun.{first_run_legal, one_first_end}
use Rattle.pop_log.proofs.LayeredLaws.{layered_is_legal}
use Rattle.pop_log.proofs.UnitEvents.{family_cubes}
use Rattle.pop_stacks.specs.Faults.{AreLight}
use Rattle.pop_samples.specs.Frames.{AreRows, Frame, IsFrame, IsSampleOf, Rows, over}
use Rattle.pop_samples.specs.Exchange.{SamplesAt, entries_under}
use Rattle.pop_samples.specs.Lists.{AreAll}
use Rattle.pop_samples.proofs.Conses.{same_kind, same_list}
use Rattle.pop_samples.proofs.ExactCounts.{one_place}
use Rattle.pop_samples.proofs.Finishing.{runs_like}
use Rattle.pop_samples.proofs.FrameRows.{suits_end}
use Rattle.pop_samples.proofs.Listing.{kept_rows}
use Rattle.round_samples.specs.Sampled.{Sampled}
use Rattle.round_samples.proofs.Listing.{listed_rounds}
use Rattle.drawn_samples.proofs.EndedRows.{finishes_or_not}
use Rattle.pop_words.specs.declared.job.Job.{Job}
use Rattle.pop_words.specs.Options.{quiet}
use Rattle.pop_watch.specs.Telling.{Watcher, log_told}
use Rattle.pop_print.specs.Output.{sample_lines}
use Rattle.pop_print.specs.declared.facts.Facts.TheVariants.{Formula as FormulaFacts}
use Rattle.dimacs_read.specs.CnfText.{cnf_of}
use Rattle.job_subjects.specs.Subjects.{IsSubjectOf, Subject}
use Rattle.told_runs.specs.Asking.{asked_by}
use Rattle.told_runs.specs.Ends.{EndsWithin, IsToldOfFirst}
use Rattle.told_runs.specs.Names.{names_for}
use Rattle.told_runs.specs.Outcomes.Outcome.{Ended}
use Rattle.told_runs.specs.Reports.{reports_text}
use Rattle.told_runs.specs.Tellings.{Telling, records_of}
use Rattle.told_runs.proofs.LayeredOrders.{layered_order}
use Rattle.top_call.specs.Answers.{wanted_by}
use Rattle.answer_laws.specs.ExactAnswers.{frame_over, over_rows}
use Rattle.answer_laws.specs.ExactOutputs.{AreTelling, AskOver, ListedOutputs, ListedRoundOutputs, PrintsOver}
use Rattle.answer_laws.proofs.ExactAnswers.{sampled_by, sound_rows}
use Rattle.answer_laws.proofs.LikeSamples.{IsLike, like_lines, lines_tell}
use Rattle.answer_laws.proofs.PrintedCounts as P
use Rattle.answer_laws.proofs.PrintedRounds as R
use Rattle.answer_laws.proofs.FoundTrees.{found_witness}
use Rattle.answer_laws.proofs.ToldSubjects.{ended_subject, quiet_ordered}

-- a run ended within so many pops or didn't
within_or_not : (most : Option ℕ) (pops : ℕ) → EndsWithin most pops ⊎ (EndsWithin most pops → ⊥)
within_or_not None pops = inl tt
within_or_not (Some most) pops = elim (cases_lt most pops) [
  | inl more ↦ inr (λ le. absurd (omega (arith, more, le)))
  | inr few ↦ inl (omega (arith, few))
]

module _ (job : Job) (text : List ℕ) (s : Subject) (has : Contains quiet job.command)
    (is : IsSubjectOf job.command (wanted_by job) text s) (tells : AreTelling s.facts) (heights : List ℕ)
    (count : length heights ≡ length s.weights) (some : All (λ h. 0 < h) heights) (words : Rows → List (List ℕ))
    (ws : List Watcher) (ask : AskOver job s.weights heights words) (light : AreLight s.weights)
    (w : List ℕ) (is_w : IsSampleOf (frame_over s heights) w) where
  -- the frame
  abbrev f : Frame
  f = frame_over s heights

  -- it is one
  frame : IsFrame f
  frame = P.frame job text s has is tells heights count some words ws ask

  -- what is told of the run of rows
  told_of : (rows : Rows) (c : List ℕ) (pops : ℕ) → IsFirstEnd (over f rows) c pops []
      → (a : Telling) × IsToldOfFirst (asked_by job) ws (names_for s.facts) (over f rows) a
  told_of rows c pops end =
      let log : List LogRecord = end.run.0 in
      let order = layered_order log in
      let records : List LogRecord = records_of order.0 in
      let legal : IsLegal (over f rows) (start_of (over f rows)) records =
      (layered_is_legal (over f rows) (family_cubes f.family frame.family) (start_of (over f rows)) log records
      (first_run_legal (over f rows) (start_of (over f rows)) log end.run.1)
      (record { placed = order.0; sorted = order.1; records = refl })).0 in
      let witness = found_witness (names_for s.facts) job.witness (over f rows) records legal in (
        record {
          log = if job.log then Some (order.0) else None;
          witness = witness.0;
          reports = reports_text job.reports (log_told records ws);
        },
        record {
          log = log;
          run = end.run.1;
          placed = order.0;
          sorted = order.1;
          told = record { log_is = refl; witness_is = witness.1; reports_are = refl };
        },
      )

  -- the words print the lines of the sample at the end of rows, where the run isn't stopped before
  prints_at : (rows : Rows) (c u : List ℕ) → AreRows s.weights heights rows → SamplesAt f u c rows
      → sample_lines s.facts u ≡ sample_lines s.facts w → IsSampleOf f u → (pops : ℕ)
      → IsFirstEnd (over f rows) c pops [] → EndsWithin job.pops pops
      → PrintsOver s.weights heights words ws text s.facts w rows
  prints_at rows c u shape at lines is_u pops end within =
      let a = told_of rows c pops end in
      let size : length c ≡ length rows = (suits_end f frame rows shape c at.finishes).size in
      let by = sampled_by (words rows) ws text job rows s u c pops a.0 (ask rows shape)
      (quiet_ordered job.command has) is (sound_rows f frame rows shape light) end a.1 size at.entries within in
      let like : IsLike s.facts u w =
      lines_tell job.command (wanted_by job) text s is tells heights u w [] []
      (is_u, is_w, ap (λ (l : List ℕ). l ++ []) lines) in
      P.to_prints job text s has is tells heights count some words ws ask w rows
      (c, u, is_u, like, (shape, (pops, a.0, by)))

  -- it is found of all rows whether the words print the sample
  prints_or_not : (rows : Rows) → AreRows s.weights heights rows
      → PrintsOver s.weights heights words ws text s.facts w rows
      ⊎ (PrintsOver s.weights heights words ws text s.facts w rows → ⊥)
  prints_or_not rows shape =
      let extremal = P.extremal job text s has is tells heights count some words ws ask in
      let found = P.from_prints job text s has is tells heights count some words ws ask w rows is_w in
      elim (finishes_or_not f frame extremal rows shape) [
        | inr none ↦ inr (λ p.
            let (c, u, is_u, like, mine) = found p in
            none u (c, P.samples_there job text s has is tells heights count some words ws ask u c rows mine))
        | inl (c, u, at) ↦
            let end : IsFirstEnd (over f rows) c (length at.finishes.0) [] =
            (runs_like (over f rows) extremal at.finishes.0 c at.finishes.1).first in
            let is_u : IsSampleOf f u = P.sample_at f frame u c rows at in
            elim (same_list (sample_lines s.facts u) (sample_lines s.facts w)) [
              | inr other ↦ inr (λ p.
                  let (d, v, is_v, like, mine) = found p in
                  let there = P.samples_there job text s has is tells heights count some words ws ask v d rows mine in
                  let place : c ≡ d = one_place (over f rows) extremal c d at.finishes there.finishes in
                  let same : u ≡ v = sym at.entries ∙ ap (entries_under rows) place ∙ there.entries in
                  other (ap (sample_lines s.facts) same ∙ like_lines s.facts v w like))
              | inl lines ↦ elim (within_or_not job.pops (length at.finishes.0)) [
                | inl within ↦ inl (prints_at rows c u shape at lines is_u (length at.finishes.0) end within)
                | inr past ↦ inr (λ p.
                    let (d, v, is_v, like, mine) = found p in
                    let (pops, a, by) = mine.1 in
                    let own = P.answered_end job text s has is tells heights count some words ws ask v d rows shape pops a by in
                    let same = (one_first_end (over f rows) extremal c d (length at.finishes.0) pops [] [] end own.1).pops in
                    let of = ended_subject (over_rows job rows) ws text s.facts by.instance d pops [] a
                    (P.comes_of_rows job text s has is tells heights count some words ws ask rows shape
                    (Ended s.facts by.instance d pops [] a) by.outcome) in
                    past (subst (EndsWithin job.pops) (sym same) of.within))
              ]
            ]
      ]

  -- so those are kept
  listed : (all : List Rows) × AreAll (PrintsOver s.weights heights words ws text s.facts w) all
  listed =
      kept_rows f frame (PrintsOver s.weights heights words ws text s.facts w) (λ rows p. p.shape) prints_or_not

-- the law of runs
pub listed_outputs : ListedOutputs
listed_outputs job text s heights words ws has is tells light count some ask w is_w =
    listed job text s has is tells heights count some words ws ask light w is_w

-- the law of rounds
pub listed_round_outputs : ListedRoundOutputs
listed_round_outputs job text events heights words ws by spelled are count some ask w ok =
    let g : Frame = R.g job text events heights words ws by spelled are count some ask in
    let frame = R.g_frame job text events heights words ws by spelled are count some ask in
    let every = listed_rounds g frame tt w in (
      every.0,
      same_kind (Sampled g w) (PrintsOver g.weights heights words ws text (FormulaFacts (cnf_of text).variables) w) every.0
          every.1 (λ rows s. R.sampled_prints job text events heights words ws by spelled are count some ask w rows ok s)
          (λ rows p. R.prints_sampled job text events heights words ws by spelled are count some ask w rows ok p),
    )
