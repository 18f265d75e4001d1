use Rattle.std.proofs.Common.{decimal, sym, ◌∙◌, arith}
use Rattle.std.proofs.lemmas.Fmt.{decimal_injective}
use Rattle.std.proofs.lemmas.Bool.{false≢true}
use Rattle.run_cert.proofs.HeadLinesLemmas.{label_same}
use Rattle.run_cert.proofs.head_lines.labeled.Goals as goal

pub returns-in_default-number : goal.returns-in_default-number
returns-in_default-number c n may same =
    let high = may.1 in
    let fits = c.ranges.high.fits in
    c.in_default-number.ensures n (omega (arith, high, fits))
    (label_same c.args.label.now c.in-Some.digits.now (decimal n) (sym c.in-Some.ensures ∙ same))

pub returns-then-not-is_between : goal.returns-then-not-is_between
returns-then-not-is_between c n may same =
    let high = may.1 in
    let fits = c.ranges.high.fits in
    let number = c.in-Some-number.ensures in
    let one = decimal_injective c.in-Some-number.n n number.0 (omega (arith, high, fits)) (sym number.1
    ∙ label_same c.args.label.now c.in-Some.digits.now (decimal n) (sym c.in-Some.ensures ∙ same)) in
    let low = may.0 in
    false≢true (c.if-not-is_between.ensures.1 (omega (arith, low, one), omega (arith, high, one)))
