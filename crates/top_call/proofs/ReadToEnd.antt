-- A source that was read completely, or up to the first byte past a limit, compared with its input. The bytes that
-- were read are this input, or they are past the limit and the input continues after them.
use Rattle.std.proofs.Common.{inl, inr, ◌≡◌, ◌<◌, ◌≤◌, ℕ, List, ◌++◌, length, Option, None, Some, sym, ap, subst, ◌∙◌}
use Rattle.std.proofs.lemmas.Bool.{cases_lt}
use Rattle.std.proofs.lemmas.List.{append-nil}
use Rattle.std.specs.Io.KnownBytes.{Consumes, IsAtEnd}
use Rattle.top_call.specs.Whole.{IsReadTo}

-- what holds of the bytes, and where they are past the limit of what goes on behind them, holds of the text
pub of_read : (Holds : List ℕ → Type 0) (limit : ℕ) (left left' : Option (List ℕ)) (text bytes : List ℕ)
    → left ≡ Some text → IsReadTo limit left left' bytes
    → ((rest : List ℕ) → limit < length bytes → Holds (bytes ++ rest)) → Holds bytes → Holds text
of_read Holds limit left left' text bytes known read long same =
    by_rest left' (subst (λ l. Consumes l left' bytes) known read.consumed) read.whole
  where
    by_rest : (rest : Option (List ℕ)) → Consumes (Some text) rest bytes → (length bytes ≤ limit → IsAtEnd rest)
        → Holds text
    by_rest None taken at_end = absurd taken
    by_rest (Some rest) taken at_end = elim (cases_lt limit (length bytes)) [
      | inl more ↦ subst Holds (sym taken) (long rest more)
      | inr few ↦
          subst Holds (sym (taken ∙ ap (λ (l : List ℕ). bytes ++ l) (at_end few) ∙ append-nil bytes)) same
    ]
