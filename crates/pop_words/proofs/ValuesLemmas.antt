-- What is read of a word, where it passes a test.
use Rattle.std.proofs.Common.{inl, inr, ◌⊎◌, subst, ◌≡◌, Bool, true, false, if◌then◌else◌, Option, None, Some, refl, ap, ◌∙◌}
use Rattle.pop_words.specs.Values.{only_if}

-- what was read passes a test
pub passes : {Y : Type 0} (test : Y → Bool) (read : Option Y) (y : Y) → read ≡ Some y → test y ≡ true
    → only_if test read ≡ Some y
passes test read y some good = ap (only_if test) some ∙ ap (λ b. if b then Some y else None) good

-- what passed a test was read, and passes it
pub passed : {Y : Type 0} (test : Y → Bool) (read : Option Y) (y : Y) → only_if test read ≡ Some y → (read ≡ Some y)
    × (test y ≡ true)
passed test None y same = absurd (cc)
passed test (Some x) y same =
    (elim (test x) as (λ b. test x ≡ b → (if b then Some x else None) ≡ Some y → (Some x ≡ Some y)
    × (test y ≡ true)) [
      | true ↦ λ t is. let it : x ≡ y = cc in (is, subst (λ z. test z ≡ true) it t)
      | false ↦ λ t is. absurd (cc)
    ]) refl same

-- what nothing passed: it wasn't read, or it fails the test
pub refused : {Y : Type 0} (test : Y → Bool) (read : Option Y) → only_if test read ≡ None → (read ≡ None)
    ⊎ ((y : Y) × (read ≡ Some y) × (test y ≡ false))
refused test None same = inl refl
refused test (Some x) same =
    (elim (test x) as (λ b. test x ≡ b → (if b then Some x else None) ≡ None → (Some x ≡ None)
    ⊎ ((y : _) × (Some x ≡ Some y) × (test y ≡ false))) [
      | true ↦ λ t is. absurd (cc)
      | false ↦ λ t is. inr (x, refl, t)
    ]) refl same
