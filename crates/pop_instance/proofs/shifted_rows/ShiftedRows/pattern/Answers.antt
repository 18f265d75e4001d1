use Rattle.std.proofs.Common.{◌≡◌, ◌<◌, ℕ, List, length, get_or, sym, ap, ◌∙◌, arith}
use Rattle.std.proofs.lemmas.Grind.{get_or_default_zero}
use Rattle.pop_rows.specs.FlatRows.{row_at}
use Rattle.pop_instance.specs.ShiftedRows.{shifted}
use Rattle.pop_instance.proofs.ShiftedRowsLemmas.{count_shifted, row_shifted}
use Rattle.pop_instance.proofs.shifted_rows.ShiftedRows.pattern.Goals as goal

pub index-requires : goal.index-requires
index-requires c =
    let size = count_shifted c.self.inside.kinds.items c.self.inside.patterns in
    omega (arith, c.self.inside.kinds.ok.0, size, ap length c.self.view_is, c.requires)

pub row-requires : goal.row-requires
row-requires c =
    let kinds : List ℕ = c.self.inside.kinds.items in
    let size = count_shifted kinds c.self.inside.patterns in
    let within : c.args.v < length kinds = omega (arith, size, ap length c.self.view_is, c.requires) in
    let known = c.self.invariant.known c.args.v c.index.result.now within in
    record { known = omega (arith, known, c.index.ensures, c.from.ensures) }

pub returns-clause-pattern : goal.returns-clause-pattern
returns-clause-pattern c =
    let kinds : List ℕ = c.self.inside.kinds.items in
    let patterns : List (List ℕ) = c.self.inside.patterns in
    let v : ℕ = c.args.v in
    let size = count_shifted kinds patterns in
    let within : v < length kinds = omega (arith, size, ap length c.self.view_is, c.requires) in
    let kind : c.from.result ≡ get_or kinds v 0 =
    omega (arith, c.from.ensures, c.index.ensures, get_or_default_zero kinds v c.index.result.now within) in
    ap (shifted v) (c.row.ensures.row ∙ ap (row_at patterns) kind) ∙ sym (row_shifted kinds patterns v within)
    ∙ ap (λ rows. row_at rows v) c.self.view_is
