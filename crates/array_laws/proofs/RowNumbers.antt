-- A list whose numbers are those of a row is the row.
use Rattle.std.proofs.Common.{◌≡◌, ℕ, ◌+◌, ◌-◌, ◌<◌, List, length, get_or, sym, ap, ◌∙◌, arith}
use Rattle.std.proofs.lemmas.List.FromFn.{fill_by_all}
use Rattle.array_calls.specs.Rows.{HasRow}
use Rattle.array_calls.specs.Values.{number_at}
use Rattle.array_laws.specs.PrintedRows.{numbers_from}

-- each number of the list is that of its place in the row
pub of_place : (n at : ℕ) (list numbers : List ℕ) → HasRow at n (number_at list) numbers → (k : ℕ) → k < n
    → get_or list k 0 ≡ get_or numbers (at + k) 0
of_place n at list numbers has k less =
    let back : k ≡ k + 1 - 1 = omega arith in
    ap (λ (m : ℕ). get_or list m 0) back ∙ sym (has k less)

-- so the list is the row, if it has n numbers
pub row_list : (n at : ℕ) (list numbers : List ℕ) → length list ≡ n → HasRow at n (number_at list) numbers
    → list ≡ numbers_from at n numbers
row_list n at list numbers size has =
    fill_by_all (λ k. get_or numbers (at + k) 0) list n 0 size (of_place n at list numbers has)
