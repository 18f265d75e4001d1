-- Running sums that are written over rows in vectors, as over lists.
use Rattle.std.proofs.Common.{◌≡◌, ℕ, ◌+◌, ◌<◌, ◌^◌, List, [], length, set, get_or, sum, Vec, sym, ◌∙◌, arith}
use Rattle.std.proofs.lemmas.List.{map-set}
use Rattle.pop_model.specs.Stacks.{row_of}
use Rattle.pop_rows.specs.PrefixSums.{running}
use Rattle.pop_rows.proofs.SumsInPlace.{AreAccumulated, row_read as list_read, length-accumulated, rows_next as lists_next}
use Rattle.pop_stacks.specs.Rows.{lists_of}
use Rattle.pop_stacks.proofs.RowsLemmas.{length-lists_of, list_at}

-- the row that a turn reads has its weights
pub row_read : {A : Type 0} (now : List (Vec ℕ A)) (rows : List (List ℕ)) (v : ℕ) (x : Vec ℕ A)
    → AreAccumulated rows v (lists_of now) → v < length rows → x ≡ get_or now v x → x.items ≡ row_of rows v
row_read now rows v x so_far within read =
    let below : v < length now =
    omega (arith, length-accumulated rows (lists_of now) v so_far, length-lists_of now) in
    sym (list_at now v x [] below read) ∙ list_read rows (lists_of now) v [] so_far within

-- a turn: a row is put in the place of its weights
pub rows_next : {A : Type 0} (now : List (Vec ℕ A)) (rows : List (List ℕ)) (v : ℕ) (x : Vec ℕ A)
    → AreAccumulated rows v (lists_of now) → v < length rows → x.items ≡ running 0 (row_of rows v)
    → sum (row_of rows v) < 2 ^ 32 → AreAccumulated rows (v + 1) (lists_of (set now v x))
rows_next now rows v x so_far within sums light =
    rw (map-set (λ v. v.items) now v x) (lists_next rows (lists_of now) v x.items so_far within sums light)
