use Rattle.std.proofs.Common.{◌≡◌, ◌++◌, ℕ, List, drop, None, Some, sym, ◌∙◌, ap, refl}
use Rattle.std.proofs.lemmas.Bool.{false≢true}
use Rattle.std.proofs.lemmas.Option.{same_Some}
use Rattle.pop_words.specs.Values.{rows_in}
use Rattle.run_cert.specs.Heads.{rows_text}
use Rattle.run_cert.proofs.SpelledRows.{rows_again, rows_read}
use Rattle.run_cert.proofs.head_lines.rows_of.Goals as goal

pub returns-in_default : goal.returns-in_default
returns-in_default c rows may is =
    let none : None ≡ Some rows = sym c.in_default.is ∙ c.in_ok-rows.ensures ∙ ap rows_in c.behind_first.ensures
    ∙ ap (λ t. rows_in (drop 1 t)) is ∙ rows_again rows may in absurd (cc)

pub returns-then-not-are_same : goal.returns-then-not-are_same
returns-then-not-are_same c rows may is =
    let read : rows_in (drop 1 c.args.text.now) ≡ Some c.in-Some.rows =
    sym (c.in_ok-rows.ensures ∙ ap rows_in c.behind_first.ensures) ∙ c.in-Some.is in
    let one : c.in-Some.rows ≡ rows =
    same_Some c.in-Some.rows rows (sym read ∙ ap (λ t. rows_in (drop 1 t)) is ∙ rows_again rows may) in
    false≢true (c.if-not-are_same.ensures.1
    (c.deref.ensures.value ∙ c.into_bytes-again.ensures ∙ c.in_ok-push_rows.ensures
    ∙ ap (λ (o : List ℕ). o ++ rows_text c.in-Some.rows) c.in_ok-out.ensures ∙ ap rows_text one ∙ sym is))

pub returns : goal.returns
returns c = (
  rows_read c.behind_first.result.now c.in-Some.rows (sym (c.in_ok-rows.ensures) ∙ c.in-Some.is),
  sym (c.if-not-are_same.ensures.0 refl) ∙ c.deref.ensures.value ∙ c.into_bytes-again.ensures
      ∙ c.in_ok-push_rows.ensures ∙ ap (λ (o : List ℕ). o ++ rows_text c.in-Some.rows) c.in_ok-out.ensures,
)
