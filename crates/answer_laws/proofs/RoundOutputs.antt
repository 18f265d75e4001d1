-- The output of rounds with status 0. An outcome of rounds with that status is an end of rounds at which no event
-- occurs. So no variable is short of entries, the values satisfy the formula, and its text is theirs. Conversely, such
-- an end has this output.
use Rattle.std.proofs.Common.{◌≡◌, ℕ, ◌<◌, List, [], ◌∷◌, length, get_or, refl, sym, ap, subst, ◌∙◌, arith, Contains, Option, None, Some, slice_index}
use Rattle.std.proofs.lemmas.List.{append-nil, length-replicate}
use Rattle.std.proofs.lemmas.List.Elements.{Contains-get_or}
use Rattle.pop_model.specs.Stacks.{Origin, StackTable, row_of}
use Rattle.pop_model.specs.Popping.{values_at}
use Rattle.pop_model.specs.Families.{Event}
use Rattle.pop_model.specs.Families.Family.{Listed}
use Rattle.pop_model.specs.Instances.{Instance}
use Rattle.pop_model.specs.Runs.{start_of}
use Rattle.pop_model.proofs.Diamond.{names_it}
use Rattle.pop_model.proofs.ValuesLemmas.{length-values_at, value-values_at}
use Rattle.prs_rounds.specs.Rounds.{IsRoundsEnd}
use Rattle.prs_rounds.proofs.OneRun.{length-rounds}
use Rattle.prs_rounds.proofs.OnlyOccurring.{some_occurs}
use Rattle.pop_samples.specs.Finishing.{IsSample}
use Rattle.pop_samples.proofs.MovedLogs.{known_variable}
use Rattle.dimacs_read.specs.Cnf.{Cnf}
use Rattle.dimacs_read.specs.CnfText.{cnf_of}
use Rattle.pop_words.specs.declared.command.Command.TheVariants.{Rounds}
use Rattle.pop_words.specs.declared.job.Job.{Job}
use Rattle.pop_words.specs.CommandLines.{Asks}
use Rattle.pop_watch.specs.Telling.{Watcher}
use Rattle.pop_print.specs.declared.facts.Facts.{Facts}
use Rattle.pop_print.specs.declared.facts.Facts.TheVariants.{Formula as FormulaFacts}
use Rattle.printed_samples.proofs.ShownEnds.{literals_of_text, pair_bits}
use Rattle.job_subjects.specs.Subjects.{pair_weights, instance_over, assignments}
use Rattle.told_runs.specs.Outcomes.{Outcome, Tells, end_status, status_of, text_of}
use Rattle.told_runs.specs.Outcomes.Outcome.{Rounded}
use Rattle.top_call.specs.Answers.{ComesOf, IsOutcome, origin_for}
use Rattle.answer_laws.specs.EverySample.{Satisfies}
use Rattle.answer_laws.specs.RoundAnswers.{IsRoundedOutput, RoundOutputs, rounded_text}
use Rattle.answer_laws.proofs.OneOutcome.{line_comes}
use Rattle.answer_laws.proofs.RefusedOr.{refusal_high}
use Rattle.answer_laws.proofs.RoundAnswers.{IsEndOfRounds, of_rounds, rounds_line_of}
use Rattle.answer_laws.proofs.EverySample.{samples_satisfy}
use Rattle.answer_laws.proofs.SubjectKinds.{assignments_family, pair_size}

-- where the stuck list of rounds is empty, no event occurs and no variable is short
pub finished_rounds : (i : Instance) (c : List ℕ) (rounds : ℕ) (stuck : List Event) (short : Option ℕ)
    → IsRoundsEnd i c rounds stuck short → end_status stuck ≡ 0 → (stuck ≡ []) × (short ≡ None)
finished_rounds i c rounds [] None end zero = (refl, refl)
finished_rounds i c rounds [] (Some v) end zero =
    let resampled = end.end.holds.resampled in
    let e = some_occurs i c resampled.1.0 resampled.0 resampled.1.1 in
    let has : Contains [] e.0 = (end.stuck_list.exact e.0).1 (e.1.event, e.1.occurs) in
    absurd (omega (arith, has.1))
finished_rounds i c rounds (e ∷ stuck) short end zero = absurd (omega (arith, zero))

-- an end of rounds with status 0
record IsFinishedEnd (origin : Origin) (text : List ℕ) (o : Outcome) : Type 0 where
  instance : Instance
  cursors : List ℕ
  rounds : ℕ
  told : o ≡ Rounded (FormulaFacts (cnf_of text).variables) instance cursors rounds [] None
  is : IsEndOfRounds origin text (FormulaFacts (cnf_of text).variables) instance cursors rounds [] None

-- one that tells no event tells one
no_event_left : (origin : Origin) (text : List ℕ) (facts : Facts) (i : Instance) (c : List ℕ) (n : ℕ)
    (stuck : List Event) (short : Option ℕ) → IsEndOfRounds origin text facts i c n stuck short → end_status stuck ≡ 0
    → IsFinishedEnd origin text (Rounded facts i c n stuck short)
no_event_left origin text facts i c n stuck short is zero =
    let none = finished_rounds (instance_over origin (assignments (cnf_of text) is.events)) c n stuck short is.end zero in
    let Told : Facts → List Event → Option ℕ → Type 0 =
    λ t s v. (Rounded facts i c n stuck short ≡ Rounded t i c n s v) × IsEndOfRounds origin text t i c n s v in
    let facts' : Facts = FormulaFacts (cnf_of text).variables in
    let end : Told facts' [] None =
    subst (λ t. Told t [] None) is.facts_are (subst (λ v. Told facts [] v) none.1 (subst (λ s. Told facts s short) none.0
    (refl, is))) in
    record { instance = i; cursors = c; rounds = n; told = end.0; is = end.1 }

-- what comes of rounds with status 0 is such an end
finished_end : (job : Job) (ws : List Watcher) (text : List ℕ) → job.command ≡ Rounds → (o : Outcome)
    → ComesOf job ws text o → status_of o ≡ 0 → IsFinishedEnd (origin_for job) text o
finished_end job ws text by =
    of_rounds job by ws text (λ o. status_of o ≡ 0 → IsFinishedEnd (origin_for job) text o)
    (λ r refuses zero. absurd (omega (arith, zero, refusal_high r))) (no_event_left (origin_for job) text)

-- the values at an end of rounds satisfy the formula
values_satisfy : (origin : Origin) (text : List ℕ) (facts : Facts) (i : Instance) (c : List ℕ) (n : ℕ)
    → IsEndOfRounds origin text facts i c n [] None → Satisfies (cnf_of text) (values_at i.stacks c)
values_satisfy origin text facts i c n e =
    subst (λ (j : Instance). Satisfies f (values_at j.stacks c)) (sym e.instance_is)
    ((samples_satisfy f e.events [] x (literals_of_text text e.spelled.0) e.spelled.2 e.of_formula).0
    (record { count = count; values = values; sample = sample }))
  where
    f : Cnf
    f = cnf_of text

    s : StackTable
    s = record { origin = origin; weights = pair_weights (cnf_of text).variables }

    x : List ℕ
    x = values_at (record { origin = origin; weights = pair_weights (cnf_of text).variables }) c

    pairs : length (pair_weights (cnf_of text).variables) ≡ (cnf_of text).variables
    pairs = length-replicate {A = List ℕ} (cnf_of text).variables (1 ∷ 1 ∷ [])

    size : length c ≡ (cnf_of text).variables
    size =
        length-rounds (instance_over origin (assignments (cnf_of text) e.events)) n
        (start_of (instance_over origin (assignments (cnf_of text) e.events))) c e.end.run
        ∙ length-replicate (length (pair_weights (cnf_of text).variables)) 0 ∙ pairs

    count : length (values_at s c) ≡ length (pair_weights (cnf_of text).variables)
    count = length-values_at s c ∙ size ∙ sym pairs

    values : (v : ℕ) → v < length (values_at s c)
        → get_or (values_at s c) v 0 < length (row_of (pair_weights (cnf_of text).variables) v)
    values v below =
        let long = length-values_at s c in
        let is = value-values_at s c v (omega (arith, below, long)) in
        let bit = pair_bits origin (cnf_of text).variables c e.sound v (omega (arith, below, long, size)) in
        let domain = pair_size (cnf_of text).variables v (omega (arith, below, long, size)) in
        omega (arith, is, bit, domain)

    sample : IsSample (Listed e.events) (slice_index (values_at s c))
    sample g event all = e.end.end g event (λ k d within.
        let p : ℕ × ℕ = get_or g.cube k d in
        let known = known_variable s (Listed e.events)
        ((assignments_family text (cnf_of text) e.events e.spelled e.of_formula).fits origin) g event p.0
        (names_it g.cube p (Contains-get_or g.cube k d within)) in
        sym (value-values_at s c p.0 (omega (arith, known, size, pairs))) ∙ all k d within)

-- its text is that of its values
text_is : (text : List ℕ) (i : Instance) (c : List ℕ) (n : ℕ)
    → text_of (Rounded (FormulaFacts (cnf_of text).variables) i c n [] None) ≡ rounded_text (values_at i.stacks c) c n
text_is text i c n = append-nil (rounded_text (values_at i.stacks c) c n)

-- an answer with status 0 is such an output
to_output : (job : Job) (words : List (List ℕ)) (ws : List Watcher) (text out : List ℕ) → job.command ≡ Rounds
    → Asks words job → (o : Outcome) → IsOutcome words ws text o → Tells o 0 out → IsRoundedOutput words ws text out
to_output job words ws text out by asks o comes tells =
    let h : ComesOf job ws text o = line_comes words job ws text o asks (rounds_line_of job.command by) comes in
    let end : IsFinishedEnd (origin_for job) text o = finished_end job ws text by o h (sym tells.status_is) in
    record {
      values = values_at end.instance.stacks end.cursors;
      cursors = end.cursors;
      rounds = end.rounds;
      by = record {
        instance = end.instance;
        outcome = subst (IsOutcome words ws text) end.told comes;
        sample = refl;
      };
      satisfied = values_satisfy (origin_for job) text (FormulaFacts (cnf_of text).variables) end.instance end.cursors
          end.rounds end.is;
      out_is = tells.out_is ∙ ap text_of end.told ∙ text_is text end.instance end.cursors end.rounds;
    }

-- the law
pub round_outputs : RoundOutputs
round_outputs job words ws text out by asks = (
  λ (o, comes, tells). to_output job words ws text out by asks o comes tells,
  λ r. (
    Rounded (FormulaFacts (cnf_of text).variables) r.by.instance r.cursors r.rounds [] None,
    r.by.outcome,
    record {
      status_is = refl;
      out_is = r.out_is ∙ ap (λ (w : List ℕ). rounded_text w r.cursors r.rounds) (sym r.by.sample)
          ∙ sym (text_is text r.by.instance r.cursors r.rounds);
    },
  ),
)
