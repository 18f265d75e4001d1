use Rattle.std.proofs.Common.{List, ℕ, None, Some, refl}
use Rattle.std.proofs.lemmas.Bool.{false≢true}
use Rattle.std.proofs.lemmas.Bool.Decides.{Decides-eqb}
use Rattle.std.proofs.lemmas.Slice.Eq.{strip_prefix_is}
use Rattle.pop_log.proofs.HeadLines.{count_is, no_count_end, no_front}
use Rattle.pop_log.proofs.first_line.count_behind.Goals as goal

pub returns-in_default : goal.returns-in_default
returns-in_default c =
    let front : List ℕ = c.args.front.now in
    let line : List ℕ = c.args.line.now in
    no_front front line (strip_prefix_is Decides-eqb line front None c.in_default.ensures.cases)

pub returns-then-is_line_end : goal.returns-then-is_line_end
returns-then-is_line_end c =
    let front : List ℕ = c.args.front.now in
    let line : List ℕ = c.args.line.now in
    let text = c.in-Some.text in
    count_is front line text.now c.in-Some-front_number.rest.now c.in-Some-front_number.count
    (strip_prefix_is Decides-eqb line front (Some text) c.in-Some.ensures.cases) c.in-Some-front_number.ensures
    (c.if-is_line_end.ensures.0 refl)

pub returns-else-is_line_end : goal.returns-else-is_line_end
returns-else-is_line_end c =
    let front : List ℕ = c.args.front.now in
    let line : List ℕ = c.args.line.now in
    let text = c.in-Some.text in
    no_count_end front line text.now c.in-Some-front_number.rest.now c.in-Some-front_number.count
    (strip_prefix_is Decides-eqb line front (Some text) c.in-Some.ensures.cases) c.in-Some-front_number.ensures
    (λ end. false≢true (c.if-is_line_end.ensures.1 end))
