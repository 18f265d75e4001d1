-- Running sums are written over the numbers of a row, from the front on. Before each turn the places up to here hold
-- the sums, and those from here on still hold the numbers; so a turn reads a number, and writes the sum with it. The
-- same holds of rows: those up to here are rows of sums.
use Rattle.std.proofs.Common.{inl, inr, ◌≡◌, ℕ, zero, suc, ◌+◌, ◌<◌, ◌≤◌, ◌^◌, List, [], ◌∷◌, ◌++◌, length, get_or, set, take, drop, map, sum, refl, ap, ap₂, ◌∙◌, arith, add-one, take_all, append-nil, below_more}
use Rattle.std.proofs.lemmas.List.{drop_all}
use Rattle.std.proofs.lemmas.List.Sums.{sum_by-cons, sum_by_more, sum_by-take-le}
use Rattle.std.proofs.lemmas.Bool.{cases_lt}
use Rattle.pop_model.specs.Places.{IsLeast}
use Rattle.pop_rows.specs.FlatRows.{row_at}
use Rattle.pop_rows.specs.PrefixSums.{running, IsTooHeavy}

-- there are as many sums as numbers
pub length-running : (total : ℕ) (row : List ℕ) → length (running total row) ≡ length row
length-running total [] = refl
length-running total (x ∷ row) = ap suc (length-running (total + x) row)

-- the row with the sums up to a place
abbrev pub part : ℕ → List ℕ → ℕ → List ℕ
part total row i = running total (take i row) ++ drop i row

part_turn : (total : ℕ) (row : List ℕ) (i : ℕ) → i < length row
    → set (part total row i) i (total + sum (take i row) + get_or row i 0) ≡ part total row (suc i)
part_turn total [] i within = absurd (omega arith)
part_turn total (x ∷ row) zero within =
    let first : total + sum (take zero (x ∷ row)) + x ≡ total + x = omega arith in ap (λ n. n ∷ row) first
part_turn total (x ∷ row) (suc i) within =
    let split : sum (x ∷ take i row) ≡ x + sum (take i row) = sum_by-cons (λ (n : ℕ). n) x (take i row) in
    let same : total + sum (x ∷ take i row) + get_or row i 0 ≡ (total + x) + sum (take i row) + get_or row i 0 =
    omega (arith, split) in
    ap (λ n. (total + x) ∷ set (part (total + x) row i) i n) same
    ∙ ap (λ ys. (total + x) ∷ ys) (part_turn (total + x) row i (omega arith))

part_read : (total : ℕ) (row : List ℕ) (i : ℕ) (d : ℕ) → i < length row → get_or (part total row i) i d ≡ get_or row i 0
part_read total [] i d within = absurd (omega arith)
part_read total (x ∷ row) zero d within = refl
part_read total (x ∷ row) (suc i) d within = part_read (total + x) row i d (omega arith)

-- a row at a place of the walk, and the sum so far
pub record AreSummed (row : List ℕ) (i : ℕ) (now : List ℕ) (total : ℕ) : Type 0 where
  pub written : now ≡ part 0 row i
  pub whole : total ≡ sum (take i row)
  pub light : total < 2 ^ 32

-- a turn: the sum with the next number is written
pub summed_turn : (row : List ℕ) (i : ℕ) (now : List ℕ) (total next : ℕ) → AreSummed row i now total → i < length row
    → next ≡ total + get_or now i 0 → next < 2 ^ 32 → AreSummed row (i + 1) (set now i next) next
summed_turn row i now total next so_far within is light =
    let read : get_or now i 0 ≡ get_or row i 0 = ap (λ xs. get_or xs i 0) so_far.written ∙ part_read 0 row i 0 within in
    let more : sum (take (i + 1) row) ≡ sum (take i row) + get_or row i 0 = sum_by_more (λ (n : ℕ). n) row i 0 within in
    let whole = so_far.whole in
    let value : next ≡ 0 + sum (take i row) + get_or row i 0 = omega (arith, read, whole, is) in
    record {
      written = ap₂ (λ xs n. set xs i n) so_far.written value ∙ rw add-one (part_turn 0 row i within);
      whole = omega (arith, value, more);
      light = light;
    }

-- where the sum with the next number passes 32 bits, so does the sum of all numbers
pub too_heavy : (row : List ℕ) (i : ℕ) (now : List ℕ) (total : ℕ) → AreSummed row i now total → i < length row
    → 2 ^ 32 ≤ total + get_or now i 0 → 2 ^ 32 ≤ sum row
too_heavy row i now total so_far within heavy =
    let read : get_or now i 0 ≡ get_or row i 0 = ap (λ xs. get_or xs i 0) so_far.written ∙ part_read 0 row i 0 within in
    let more : sum (take (i + 1) row) ≡ sum (take i row) + get_or row i 0 = sum_by_more (λ (n : ℕ). n) row i 0 within in
    let all : sum (take (i + 1) row) ≤ sum row = sum_by-take-le (λ (n : ℕ). n) row (i + 1) in
    let whole = so_far.whole in
    omega (arith, read, more, all, whole, heavy)

-- at the end the row holds its sums
pub all_summed : (row : List ℕ) (i : ℕ) (now : List ℕ) (total : ℕ) → AreSummed row i now total → length row ≤ i
    → (now ≡ running 0 row) × (sum row < 2 ^ 32)
all_summed row i now total so_far far =
    let all : take i row ≡ row = take_all i row far in
    let light = so_far.light in
    let whole : total ≡ sum row = so_far.whole ∙ ap (λ xs. sum xs) all in (
      so_far.written ∙ ap₂ (λ ys zs. running 0 ys ++ zs) all (drop_all i row far) ∙ append-nil (running 0 row),
      omega (arith, whole, light),
    )

-- the rows with the sums of those up to a place
abbrev pub rows_part : List (List ℕ) → ℕ → List (List ℕ)
rows_part rows v = map (running 0) (take v rows) ++ drop v rows

rows_turn : (rows : List (List ℕ)) (v : ℕ) → v < length rows
    → set (rows_part rows v) v (running 0 (get_or rows v [])) ≡ rows_part rows (suc v)
rows_turn [] v within = absurd (omega arith)
rows_turn (x ∷ rows) zero within = refl
rows_turn (x ∷ rows) (suc v) within = ap (λ ys. running 0 x ∷ ys) (rows_turn rows v (omega arith))

rows_read : (rows : List (List ℕ)) (v : ℕ) (d : List ℕ) → v < length rows
    → get_or (rows_part rows v) v d ≡ get_or rows v []
rows_read [] v d within = absurd (omega arith)
rows_read (x ∷ rows) zero d within = refl
rows_read (x ∷ rows) (suc v) d within = rows_read rows v d (omega arith)

length-rows_part : (rows : List (List ℕ)) (v : ℕ) → length (rows_part rows v) ≡ length rows
length-rows_part [] zero = refl
length-rows_part [] (suc v) = refl
length-rows_part (x ∷ rows) zero = refl
length-rows_part (x ∷ rows) (suc v) = ap suc (length-rows_part rows v)

-- rows at a place of the walk: those before it pass 32 bits nowhere
pub record AreAccumulated (rows : List (List ℕ)) (v : ℕ) (now : List (List ℕ)) : Type 0 where
  pub written : now ≡ rows_part rows v
  pub light : (w : ℕ) → w < v → sum (row_at rows w) < 2 ^ 32

-- the row that a turn reads has its numbers
pub row_read : (rows now : List (List ℕ)) (v : ℕ) (d : List ℕ) → AreAccumulated rows v now → v < length rows
    → get_or now v d ≡ row_at rows v
row_read rows now v d so_far within = ap (λ ys. get_or ys v d) so_far.written ∙ rows_read rows v d within

-- no row is added or lost
pub length-accumulated : (rows now : List (List ℕ)) (v : ℕ) → AreAccumulated rows v now → length now ≡ length rows
length-accumulated rows now v so_far = ap length so_far.written ∙ length-rows_part rows v

-- a turn: a row of sums is put in the place of its numbers
pub rows_next : (rows now : List (List ℕ)) (v : ℕ) (sums : List ℕ) → AreAccumulated rows v now → v < length rows
    → sums ≡ running 0 (row_at rows v) → sum (row_at rows v) < 2 ^ 32 → AreAccumulated rows (v + 1) (set now v sums)
rows_next rows now v sums so_far within are light = record {
  written = ap₂ (λ ys y. set ys v y) so_far.written are ∙ rw add-one (rows_turn rows v within);
  light = below_more _ _ so_far.light light;
}

-- at the end each row holds its sums
pub all_accumulated : (rows : List (List ℕ)) (v : ℕ) (now : List (List ℕ)) → AreAccumulated rows v now
    → length rows ≤ v → now ≡ map (running 0) rows
all_accumulated rows v now so_far far =
    so_far.written ∙ ap₂ (λ ys zs. map (running 0) ys ++ zs) (take_all v rows far) (drop_all v rows far)
    ∙ append-nil (map (running 0) rows)

-- a row that passes 32 bits is the least that does
pub heavy_is_least : (rows : List (List ℕ)) (v : ℕ) (now : List (List ℕ)) → AreAccumulated rows v now → v < length rows
    → (sum (row_at rows v) < 2 ^ 32 → ⊥) → IsLeast (IsTooHeavy rows) v
heavy_is_least rows v now so_far within heavy = record {
  holds = (within, elim (cases_lt (sum (row_at rows v)) (2 ^ 32)) [ inl light ↦ absurd (heavy light) | inr far ↦ far ]);
  none_before = λ w less too_heavy. let light = so_far.light w less in let far =
      too_heavy.1 in omega (arith, light, far);
}
