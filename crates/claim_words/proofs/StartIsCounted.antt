-- A load shows that a board started from a cursor for each variable.
use Rattle.std.proofs.Common.{◌≡◌, ℕ, Some, sym, refl, ◌∙◌, subst, length}
use Rattle.std.proofs.lemmas.Option.{same_Some}
use Rattle.atomic_table.specs.Table.{Me, keeps, Allows}
use Rattle.claim_words.specs.declared.view.View.{View}
use Rattle.claim_words.specs.declared.opening.Opening.{Opening}
use Rattle.claim_words.specs.Openings.{count}
use Rattle.claim_words.specs.Machine.{Sound}
use Rattle.claim_words.specs.Starts.{IsCounted}
use Rattle.claim_words.proofs.WordMoves.{loaded}

-- the rule tells of the start to each pass that looks at a word
pub tells_start : {S : Type 0} (k : Opening) (slots id : ℕ) (m : Me S View) (i : ℕ) → m.0.opening ≡ Some k
    → Allows (Sound k) slots id m i (λ x. x) (λ r n. (n ≡ m) × IsCounted m.0)
tells_start k slots id m i live s o _ me small = (
  m.0,
  keeps,
  tt,
  loaded k s o id i m.0 me,
  (
    refl,
    λ j other. subst (λ (x : Opening). length x.start.value ≡ count x) (same_Some k j (sym live ∙ other)) o.counted,
  ),
)
