use Rattle.std.proofs.Common.{◌≡◌, None, Some, sym, ◌∙◌, ap, refl}
use Rattle.std.proofs.lemmas.Bool.{false≢true}
use Rattle.std.proofs.lemmas.Option.{same_Some}
use Rattle.hex.specs.Hex.{encode_lower}
use Rattle.run_cert.proofs.HeadLinesLemmas.{key_again, key_read}
use Rattle.run_cert.proofs.head_lines.key_of.Goals as goal

pub returns-in_default : goal.returns-in_default
returns-in_default c key may is =
    let none : None ≡ Some key = c.in_default.ensures ∙ key_again c.args.digits.now key may is in absurd (cc)

pub returns-then-not-are_same : goal.returns-then-not-are_same
returns-then-not-are_same c key may is =
    let one : c.in-Some.key ≡ key =
    same_Some c.in-Some.key key (c.in-Some.ensures ∙ key_again c.args.digits.now key may is) in
    false≢true (c.if-not-are_same.ensures.1
    (c.as_bytes.ensures.value ∙ c.in_ok-again.ensures ∙ ap encode_lower one ∙ sym is))

pub returns : goal.returns
returns c = (
  key_read c.args.digits.now c.in-Some.key (sym c.in-Some.ensures),
  sym (c.if-not-are_same.ensures.0 refl) ∙ c.as_bytes.ensures.value ∙ c.in_ok-again.ensures,
)
