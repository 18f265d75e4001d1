-- An error that is passed on is that of the result. An error of a part is one of the whole.
use Rattle.std.proofs.Common.{inl, inr, ◌≡◌, Result, Err, IfErr, ap, subst, sym, ◌∙◌}
use Rattle.std.specs.Result.{IsErrAnd}
use Rattle.std.proofs.lemmas.Result.{err_from_is_err_and}
use Rattle.array_calls.specs.declared.refusal.ArrayRefusal.{ArrayRefusal}
use Rattle.array_calls.specs.Refused.{IsRefusal}

-- an error that is passed on
passed_on : {T E : Type 0} (r : Result T E) (e : E) → IsErrAnd r (λ x. x ≡ e) → r ≡ Err e
passed_on r e h = let p = err_from_is_err_and r h in p.1 ∙ ap (λ x. Err x) p.2

-- want of memory, or a refusal by a part that is one by the whole
refused_by : (P Q : ArrayRefusal → Type 0) (r : ArrayRefusal) → ((x : ArrayRefusal) → P x → Q x) → IsRefusal P r
    → IsRefusal Q r
refused_by P Q r lifts (inl memory) = inl memory
refused_by P Q r lifts (inr h) = inr (lifts r h)

-- and of a refusal that is passed on
pub passed_refusal : {X : Type 0} (P Q : ArrayRefusal → Type 0) (r : Result X ArrayRefusal) (e : ArrayRefusal)
    → IsErrAnd r (λ x. x ≡ e) → ((x : ArrayRefusal) → P x → Q x) → IsRefusal P e → IfErr r (IsRefusal Q)
passed_refusal P Q r e is lifts h = subst (λ q. IfErr q (IsRefusal Q)) (sym (passed_on r e is)) (refused_by P Q e lifts h)
