-- An error that is passed on is that of the result. An error of a part is one of the whole.
use Rattle.std.proofs.Common.{inl, inr, ◌≡◌, Result, Ok, Err, IfErr, ap, subst, sym, ◌∙◌}
use Rattle.std.specs.Result.{IsErrAnd}
use Rattle.std.proofs.lemmas.Result.{err_from_is_err_and}
use Rattle.job_subjects.specs.declared.refusal.Refusal.{Refusal}
use Rattle.job_subjects.specs.Refusals.{IsRefusal}

-- an error that is passed on
pub passed_on : {T E : Type 0} (r : Result T E) (e : E) → IsErrAnd r (λ x. x ≡ e) → r ≡ Err e
passed_on r e h = let p = err_from_is_err_and r h in p.1 ∙ ap (λ x. Err x) p.2

-- what holds of an error that is passed on holds of the result's
pub refused_error : {X E : Type 0} (P : E → Type 0) (r : Result X E) (e : E) → IsErrAnd r (λ x. x ≡ e) → P e
    → IfErr r P
refused_error P r e is holds = subst (λ q. IfErr q P) (sym (passed_on r e is)) holds

-- want of memory, or a refusal by a part that is one by the whole
pub refused_by : (P Q : Refusal → Type 0) (r : Refusal) → ((x : Refusal) → P x → Q x) → IsRefusal P r → IsRefusal Q r
refused_by P Q r lifts (inl memory) = inl memory
refused_by P Q r lifts (inr h) = inr (lifts r h)

-- the same of a result that is handed on
pub refused_result_by : {X : Type 0} (P Q : Refusal → Type 0) (r : Result X Refusal) → ((x : Refusal) → P x → Q x)
    → IfErr r (IsRefusal P) → IfErr r (IsRefusal Q)
refused_result_by P Q (Ok a) lifts h = tt
refused_result_by P Q (Err e) lifts h = refused_by P Q e lifts h

-- and of a refusal that is passed on
pub passed_refusal : {X : Type 0} (P Q : Refusal → Type 0) (r : Result X Refusal) (e : Refusal)
    → IsErrAnd r (λ x. x ≡ e) → ((x : Refusal) → P x → Q x) → IsRefusal P e → IfErr r (IsRefusal Q)
passed_refusal P Q r e is lifts h = refused_error (IsRefusal Q) r e is (refused_by P Q e lifts h)
