use Rattle.std.proofs.Common.{◌<◌, ◌^◌, ℕ, List, Option, Vec, Global, length}
use Rattle.std.proofs.lemmas.List.Elements.{All-map}
use Rattle.stack_tests.proofs.arrows.heads.Goals as goal

pub returns-clause-short_rows : goal.returns-clause-short_rows
returns-clause-short_rows g c =
    let items : Vec (Option ℕ) Global → List (Option ℕ) = λ v. v.items in
    All-map (λ (row : List (Option ℕ)). length row < 2 ^ 31) items c.loop-row.rows.items c.loop-row.invariant
