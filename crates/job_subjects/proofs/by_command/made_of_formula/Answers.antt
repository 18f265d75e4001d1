use Rattle.std.proofs.Common.{inl, inr, ◌≡◌, ◌⊎◌, ℕ, List, true, false, Ok, Result, IfOk, IfErr}
use Rattle.dimacs_read.specs.Cnf.{Cnf}
use Rattle.dimacs_read.specs.CnfText.{AnswersCnf}
use Rattle.pop_words.specs.declared.command.Command.TheVariants.{Formula, Resample, Rounds}
use Rattle.job_subjects.specs.declared.making.Made.{Made}
use Rattle.job_subjects.specs.declared.refusal.Refusal.{Refusal}
use Rattle.job_subjects.specs.declared.wanted.Wanted.{Wanted}
use Rattle.job_subjects.specs.Refusals.{IsRefusal}
use Rattle.job_subjects.specs.Subjects.{AreAssignments}
use Rattle.job_subjects.specs.Made.{IsMadeOf, IsMade}
use Rattle.job_subjects.specs.Refused.{RefusesFormula, RefusesText}
use Rattle.job_subjects.proofs.MadeExtremal.{assignments_extremal, result_extremal}
use Rattle.job_subjects.proofs.MadeInstances.{facts_of_formula}
use Rattle.job_subjects.proofs.MadeTexts.{made_by, refused_by_text}
use Rattle.job_subjects.proofs.by_command.made_of_formula.Goals as goal

-- what is made of the formula is made of the text that spells it, and what refuses it refuses the text
pub returns-in-Formula-clause-made : goal.returns-in-Formula-clause-made
returns-in-Formula-clause-made c text spelled =
    let f = c.args.formula.now in
    made_by Formula c.args.wanted text (AreAssignments false f) c.make_formula.result c.in-Formula.is
    (λ s are. record { formula = f; spelled = spelled; are = are }) c.make_formula.ensures.made

pub returns-in-Formula-clause-refused : goal.returns-in-Formula-clause-refused
returns-in-Formula-clause-refused c text spelled =
    let w = c.args.wanted in
    let f = c.args.formula.now in
    refused_by_text Formula w text (RefusesFormula false w.origin w.count f) c.make_formula.result c.in-Formula.is
    (λ r h. inr (f, spelled, h)) c.make_formula.ensures.refused

-- it is extremal
pub returns-in-Formula-clause-extremal : goal.returns-in-Formula-clause-extremal
returns-in-Formula-clause-extremal c ordered run =
    let w = c.args.wanted in
    let f = c.args.formula.now in
    result_extremal (AreAssignments false f) w.origin w.count c.make_formula.result (assignments_extremal f)
    c.make_formula.ensures.made

pub returns-in-Formula-clause-formula : goal.returns-in-Formula-clause-formula
returns-in-Formula-clause-formula c =
    let w = c.args.wanted in
    facts_of_formula false c.args.formula.now w.origin w.count c.make_formula.result c.make_formula.ensures.made

-- where its events may clash, it is resampled, or rounds are made
made_free : {E : Type 0} (w : Wanted) (text : List ℕ) (f : Cnf) (r : Result Made E)
    → (w.command ≡ Resample) ⊎ (w.command ≡ Rounds) → AnswersCnf text (Ok f)
    → IfOk r (λ m. IsMadeOf (AreAssignments true f) w.origin w.count m.facts m.instance)
    → IfOk r (λ m. IsMade w text m.facts m.instance)
made_free w text f r (inl is) spelled =
    made_by Resample w text (AreAssignments true f) r is (λ s are. record { formula = f; spelled = spelled; are = are })
made_free w text f r (inr is) spelled =
    made_by Rounds w text (AreAssignments true f) r is (λ s are. record { formula = f; spelled = spelled; are = are })

refused_free : {X : Type 0} (w : Wanted) (text : List ℕ) (f : Cnf) (r : Result X Refusal)
    → (w.command ≡ Resample) ⊎ (w.command ≡ Rounds) → AnswersCnf text (Ok f)
    → IfErr r (IsRefusal (RefusesFormula true w.origin w.count f)) → IfErr r (IsRefusal (RefusesText w text))
refused_free w text f r (inl is) spelled =
    refused_by_text Resample w text (RefusesFormula true w.origin w.count f) r is (λ q h. inr (f, spelled, h))
refused_free w text f r (inr is) spelled =
    refused_by_text Rounds w text (RefusesFormula true w.origin w.count f) r is (λ q h. inr (f, spelled, h))

pub returns-in-Resample-clause-made : goal.returns-in-Resample-clause-made
returns-in-Resample-clause-made c text spelled =
    made_free c.args.wanted text c.args.formula.now c.make_formula-in-Resample.result c.in-Resample.is spelled
    c.make_formula-in-Resample.ensures.made

pub returns-in-Resample-clause-refused : goal.returns-in-Resample-clause-refused
returns-in-Resample-clause-refused c text spelled =
    refused_free c.args.wanted text c.args.formula.now c.make_formula-in-Resample.result c.in-Resample.is spelled
    c.make_formula-in-Resample.ensures.refused

pub returns-in-Resample-clause-extremal : goal.returns-in-Resample-clause-extremal
returns-in-Resample-clause-extremal c ordered run = elim c.in-Resample.is [
  | inl is ↦ absurd (ordered is)
  | inr is ↦ absurd (run is)
]

pub returns-in-Resample-clause-formula : goal.returns-in-Resample-clause-formula
returns-in-Resample-clause-formula c =
    let w = c.args.wanted in
    facts_of_formula true c.args.formula.now w.origin w.count c.make_formula-in-Resample.result
    c.make_formula-in-Resample.ensures.made
