-- A text is read as one formula, which has one list of events. So an answer that samples its assignments tells the rows
-- of arrays, and so does the answer to rounds.
use Rattle.std.proofs.Common.{◌≡◌, ◌⊎◌, ℕ, ℤ, ◌+◌, ◌≤◌, List, [], length, Contains, Option, Ok, false, refl, sym, ap, ap₂, subst, ◌∙◌, arith}
use Rattle.rand_chacha.specs.ChaCha.{key_of}
use Rattle.pop_model.specs.Families.{Event}
use Rattle.pop_model.specs.Instances.{Instance, instance_for}
use Rattle.pop_model.specs.Popping.{Cube}
use Rattle.pop_model.specs.Stacks.{IsKeyed, Origin}
use Rattle.pop_model.specs.Stacks.Origin.{Keyed}
use Rattle.dimacs_read.specs.Cnf.{Cnf}
use Rattle.dimacs_read.specs.CnfText.{AnswersCnf, cnf_of}
use Rattle.dimacs_read.specs.Falsifying.{AreEventsOf}
use Rattle.dimacs_read.specs.Literals.{cnf_in}
use Rattle.pop_batch.specs.Batches.{IsSampleEnd}
use Rattle.prs_rounds.specs.Rounds.{IsRoundsEnd}
use Rattle.pop_words.specs.declared.command.Command.TheVariants.{Formula}
use Rattle.pop_words.specs.declared.job.Job.{Job}
use Rattle.pop_words.specs.Options.{quiet}
use Rattle.pop_print.specs.declared.facts.Facts.{Facts}
use Rattle.pop_print.specs.declared.facts.Facts.TheVariants.{Formula as FormulaFacts}
use Rattle.pop_print.specs.Rounds.{rounds_text}
use Rattle.job_subjects.specs.Subjects.{AreAssignments, IsSubjectOf, Subject, assignments, instance_over}
use Rattle.told_runs.specs.Outcomes.{status_of, text_of}
use Rattle.top_call.specs.Answers.{origin_for, wanted_by}
use Rattle.array_calls.specs.Assignments.{AreEventsUnder}
use Rattle.array_calls.specs.Rounded.{IsRoundRow}
use Rattle.array_calls.specs.Values.{AreOfPairs}
use Rattle.answer_laws.proofs.KeyAnswers.{keyed_origin}
use Rattle.answer_laws.proofs.OneOutcome.{line_comes}
use Rattle.answer_laws.proofs.OneSubject.{one_events}
use Rattle.answer_laws.proofs.RefusedOr.{refusal_not_low}
use Rattle.answer_laws.proofs.RoundAnswers.{IsEndOfRounds, of_rounds, rounds_line_of}
use Rattle.array_laws.specs.PrintedAssignments.{AskForRounds, AssignmentRowsPrinted, IsTextOfRounds, RoundRowPrinted}
use Rattle.array_laws.proofs.AssignmentTexts.{assignment_told, rounds_told}
use Rattle.array_laws.proofs.BatchTexts.{AreSampleTexts, text_at}
use Rattle.array_laws.proofs.RowTexts.{answer_texts}

-- the variables of a formula have two values
pairs_of : (key : List ℕ) (height : ℕ) (f : Cnf) (i : Instance) → AreEventsUnder key height f i
    → AreOfPairs f.variables i.stacks
pairs_of key height f i under = record {
  keyed = subst (λ (k : Instance). IsKeyed k.stacks.origin) (sym under.is) tt;
  is = ap (λ (k : Instance). k.stacks.weights) under.is;
}

-- one instance has the events of a formula under a key
one_instance : (key : List ℕ) (height : ℕ) (f : Cnf) (events : List (ℕ × Cube)) (i : Instance)
    → AreEventsOf f.clauses events → AreEventsUnder key height f i
    → instance_over (Keyed (key_of key) 0 height) (assignments f events) ≡ i
one_instance key height f events i are under =
    ap (λ (rows : List (ℕ × Cube)). instance_over (Keyed (key_of key) 0 height) (assignments f rows))
    (one_events f.clauses events under.events are under.of_formula)
    ∙ sym under.is

-- the law of assignments by popping
pub assignment_rows_printed : AssignmentRowsPrinted
assignment_rows_printed words ws text out n literals key height count status asked spelled answer low =
    let f : Cnf = cnf_in n literals in
    let job : Job = asked.job in
    let origin : Origin = Keyed (key_of key) 0 height in
    let has : Contains quiet job.command = subst (Contains quiet) (sym asked.command_is) quiet_formula in
    let of = answer_texts words ws text out key height count status Formula asked has answer low in
    let is : IsSubjectOf Formula (wanted_by job) text of.subject =
    subst (λ k. IsSubjectOf k (wanted_by job) text of.subject) asked.command_is of.is in
    let same : is.formula ≡ f = is.spelled.1 ∙ sym spelled.1 in
    let are : AreAssignments false f of.subject =
    subst (λ (g : Cnf). AreAssignments false g of.subject) same is.are in
    let s : Subject = assignments f are.events in
    let texts : AreSampleTexts (FormulaFacts n) (instance_over origin s) count out =
    subst (λ (s : Subject). AreSampleTexts s.facts (instance_over origin s) count out) are.is of.texts in (
      texts.texts,
      texts.size,
      texts.out_is,
      λ i first j values useds counts told under found some row.
          let here : instance_over origin s ≡ i = one_instance key height f are.events i are.of_formula under in
          assignment_told n i (pairs_of key height f i under) first j values useds counts some row told
          (subst (λ (k : Instance). told ≡ text_at (FormulaFacts n) k (first + j) row.end) here
          (texts.each (first + j) told row.end found
          (subst (λ (k : Instance). IsSampleEnd k (first + j) row.end) (sym here) row.of_sample))),
    )
  where
    quiet_formula : Contains quiet Formula
    quiet_formula = (0, omega arith, refl)

-- the end of the rounds of a text is told by the row
ended_rounds : (words : List (List ℕ)) (text out : List ℕ) (n : ℕ) (literals : List ℤ) (key : List ℕ) (height : ℕ)
    (i : Instance) (values useds counts : List ℕ) (asked : AskForRounds words key height)
    → AnswersCnf text (Ok (cnf_in n literals)) → AreEventsUnder key height (cnf_in n literals) i → n ≤ length useds
    → IsRoundRow i n 0 [] 0 values useds counts → (facts : Facts) (k : Instance) (c : List ℕ) (rounds : ℕ)
    (stuck : List Event) (short : Option ℕ)
    → IsEndOfRounds (origin_for asked.job) text facts k c rounds stuck short
    → out ≡ rounds_text facts k c rounds stuck short → IsTextOfRounds n i values useds counts out
ended_rounds words text out n literals key height i values useds counts asked spelled under some row facts k c rounds
    stuck short of is =
    let f : Cnf = cnf_in n literals in
    let same : cnf_of text ≡ f = sym spelled.1 in
    let origin : origin_for asked.job ≡ Keyed (key_of key) 0 height =
    keyed_origin asked.job key asked.key_is ∙ ap (λ (h : ℕ). Keyed (key_of key) 0 h) asked.height_is in
    let are : AreEventsOf f.clauses of.events =
    subst (λ (g : Cnf). AreEventsOf g.clauses of.events) same of.of_formula in
    let here : instance_over (origin_for asked.job) (assignments (cnf_of text) of.events) ≡ i =
    ap₂ (λ (o : Origin) (g : Cnf). instance_over o (assignments g of.events)) origin same
    ∙ one_instance key height f of.events i are under in
    let facts_are : facts ≡ FormulaFacts n =
    of.facts_are ∙ ap (λ (g : Cnf). FormulaFacts g.variables) same in
    let first : instance_for 0 i ≡ i = ap (instance_for 0) under.is ∙ sym under.is in
    rounds_told n i (pairs_of key height f i under) values useds counts some row first c rounds stuck short
    (subst (λ (k : Instance). IsRoundsEnd k c rounds stuck short) here of.end) out
    (is
    ∙ ap₂ (λ (t : Facts) (k : Instance). rounds_text t k c rounds stuck short) facts_are (of.instance_is ∙ here))

-- the law of rounds
pub round_row_printed : RoundRowPrinted
round_row_printed words ws text out n literals key height status i values useds counts asked spelled (o, h, tells) low
    under some row =
    let job : Job = asked.job in
    of_rounds job asked.command_is ws text
    (λ o. (status_of o ≡ 0) ⊎ (status_of o ≡ 1) → out ≡ text_of o → IsTextOfRounds n i values useds counts out)
    (λ r refuses low is. absurd (refusal_not_low r low))
    (λ facts k c rounds stuck short of low is.
    ended_rounds words text out n literals key height i values useds counts asked spelled under some row facts k c
    rounds stuck short of is) o
    (line_comes words job ws text o asked.asks (rounds_line_of job.command asked.command_is) h)
    (subst (λ n. (n ≡ 0) ⊎ (n ≡ 1)) tells.status_is low) tells.out_is
