-- Errors of formulas that are passed on: an error of a part is one of the whole.
use Rattle.std.proofs.Common.{inl, inr, ◌≡◌, Result, Err, IfErr, ap, subst, sym, ◌∙◌}
use Rattle.std.specs.Result.{IsErrAnd}
use Rattle.std.proofs.lemmas.Result.{err_from_is_err_and}
use Rattle.array_calls.specs.declared.formula_refusal.FormulaRefusal.{FormulaRefusal}
use Rattle.array_calls.specs.Assignments.{IsFormulaRefusal}

-- want of memory, or a refusal by a part that is one by the whole
refused_by : (P Q : FormulaRefusal → Type 0) (r : FormulaRefusal) → ((x : FormulaRefusal) → P x → Q x)
    → IsFormulaRefusal P r → IsFormulaRefusal Q r
refused_by P Q r lifts (inl memory) = inl memory
refused_by P Q r lifts (inr h) = inr (lifts r h)

-- and of a refusal that is passed on
pub passed_formula : {X : Type 0} (P Q : FormulaRefusal → Type 0) (r : Result X FormulaRefusal) (e : FormulaRefusal)
    → IsErrAnd r (λ x. x ≡ e) → ((x : FormulaRefusal) → P x → Q x) → IsFormulaRefusal P e
    → IfErr r (IsFormulaRefusal Q)
passed_formula P Q r e is lifts h =
    let p = err_from_is_err_and r is in
    let passed : r ≡ Err e = p.1 ∙ ap (λ x. Err x) p.2 in
    subst (λ q. IfErr q (IsFormulaRefusal Q)) (sym passed) (refused_by P Q e lifts h)
