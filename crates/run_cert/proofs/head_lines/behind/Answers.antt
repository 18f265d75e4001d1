use Rattle.std.proofs.Common.{◌∷◌, [], ℕ, List, None, Some}
use Rattle.std.proofs.lemmas.Bool.Decides.{Decides-eqb}
use Rattle.std.proofs.lemmas.Slice.Eq.{strip_prefix_is, strip_suffix_is}
use Rattle.run_cert.proofs.HeadLinesLemmas.{behind_front, behind_end}
use Rattle.run_cert.proofs.head_lines.behind.Goals as goal

pub returns-in_default : goal.returns-in_default
returns-in_default c =
    let line : List ℕ = c.args.line.now in
    let label : List ℕ = c.args.label.now in
    behind_front line label (strip_prefix_is Decides-eqb line label None c.in_default.ensures.cases)

pub returns : goal.returns
returns c =
    let line : List ℕ = c.args.line.now in
    let label : List ℕ = c.args.label.now in
    let rest = c.in-Some.rest in
    behind_end line label rest.now c.strip_suffix.result
    (strip_prefix_is Decides-eqb line label (Some rest) c.in-Some.ensures.cases)
    (strip_suffix_is Decides-eqb rest.now (10 ∷ []) c.strip_suffix.result c.strip_suffix.ensures.cases)
