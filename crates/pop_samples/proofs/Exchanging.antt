-- What an exchange leaves: the entries below the cursors, the heights, and at the cursors the new entries. Back again
-- it leaves the rows that were.
use Rattle.std.proofs.Common.{◌≡◌, ℕ, zero, suc, ◌*◌, ◌<◌, List, [], ◌∷◌, length, map, get_or, set, refl, sym, ap, ap₂, ◌∙◌, arith}
use Rattle.std.proofs.lemmas.List.{length-set, set-set, set-get_or, get_or-set_same}
use Rattle.std.proofs.Math.Nat.{mul-mul-mul_comm, mul_comm, mul_assoc}
use Rattle.pop_model.specs.Stacks.{row_of}
use Rattle.pop_model.specs.Popping.{cursor}
use Rattle.pop_samples.specs.Frames.{Rows}
use Rattle.pop_samples.specs.Exchange.{entries_under, exchange}
use Rattle.pop_samples.specs.Weights.{row_weight, sample_weight, weight_of}

-- as many cursors and values as rows, and each cursor within its row
pub record Suits (rows : Rows) (c w : List ℕ) : Type 0 where
  pub cursors : length c ≡ length rows
  pub values : length w ≡ length rows
  pub within : (v : ℕ) → v < length rows → cursor c v < length (row_of rows v)

-- so do the others behind the first
rest_suits : (row : List ℕ) (rows : Rows) (k : ℕ) (c : List ℕ) (x : ℕ) (w : List ℕ)
    → Suits (row ∷ rows) (k ∷ c) (x ∷ w) → Suits rows c w
rest_suits row rows k c x w h = record {
  cursors = let e = h.cursors in omega (arith, e);
  values = let e = h.values in omega (arith, e);
  within = λ v below. h.within (suc v) (omega (arith, below));
}

-- as many rows
pub length-exchange : (rows : Rows) (c w : List ℕ) → length (exchange rows c w) ≡ length rows
length-exchange [] c w = refl
length-exchange (row ∷ rows) [] w = refl
length-exchange (row ∷ rows) (k ∷ c) [] = refl
length-exchange (row ∷ rows) (k ∷ c) (x ∷ w) = ap suc (length-exchange rows c w)

-- of the same lengths
pub lengths-exchange : (rows : Rows) (c w : List ℕ) → map length (exchange rows c w) ≡ map length rows
lengths-exchange [] c w = refl
lengths-exchange (row ∷ rows) [] w = refl
lengths-exchange (row ∷ rows) (k ∷ c) [] = refl
lengths-exchange (row ∷ rows) (k ∷ c) (x ∷ w) =
    ap₂ (λ (n : ℕ) (ns : List ℕ). n ∷ ns) (length-set row k x) (lengths-exchange rows c w)

-- the row of a variable
pub row-exchange : (rows : Rows) (c w : List ℕ) → Suits rows c w → (v : ℕ) → v < length rows
    → row_of (exchange rows c w) v ≡ set (row_of rows v) (cursor c v) (get_or w v 0)
row-exchange [] c w h v below = absurd (omega (arith, below))
row-exchange (row ∷ rows) [] w h v below = absurd (let e = h.cursors in omega (arith, e))
row-exchange (row ∷ rows) (k ∷ c) [] h v below = absurd (let e = h.values in omega (arith, e))
row-exchange (row ∷ rows) (k ∷ c) (x ∷ w) h zero below = refl
row-exchange (row ∷ rows) (k ∷ c) (x ∷ w) h (suc v) below =
    row-exchange rows c w (rest_suits row rows k c x w h) v (omega (arith, below))

-- the entries at the cursors are the new ones
pub entries-exchange : (rows : Rows) (c w : List ℕ) → Suits rows c w → entries_under (exchange rows c w) c ≡ w
entries-exchange [] c [] h = refl
entries-exchange [] c (x ∷ w) h = absurd (let e = h.values in omega (arith, e))
entries-exchange (row ∷ rows) [] w h = absurd (let e = h.cursors in omega (arith, e))
entries-exchange (row ∷ rows) (k ∷ c) [] h = absurd (let e = h.values in omega (arith, e))
entries-exchange (row ∷ rows) (k ∷ c) (x ∷ w) h =
    ap₂ (λ (n : ℕ) (ns : List ℕ). n ∷ ns) (get_or-set_same row k x 0 (h.within 0 (omega arith)))
    (entries-exchange rows c w (rest_suits row rows k c x w h))

-- the entries that were bring the rows back
pub exchange-back : (rows : Rows) (c w : List ℕ) → Suits rows c w
    → exchange (exchange rows c w) c (entries_under rows c) ≡ rows
exchange-back [] c w h = refl
exchange-back (row ∷ rows) [] w h = absurd (let e = h.cursors in omega (arith, e))
exchange-back (row ∷ rows) (k ∷ c) [] h = absurd (let e = h.values in omega (arith, e))
exchange-back (row ∷ rows) (k ∷ c) (x ∷ w) h =
    ap₂ (λ (r : List ℕ) (rs : Rows). r ∷ rs) (set-set row k x (get_or row k 0) ∙ set-get_or row k 0)
    (exchange-back rows c w (rest_suits row rows k c x w h))

-- the entry at the cursor of a variable
pub entry-under : (rows : Rows) (c : List ℕ) → length c ≡ length rows → (v : ℕ) → v < length rows
    → get_or (entries_under rows c) v 0 ≡ get_or (row_of rows v) (cursor c v) 0
entry-under [] c e v below = absurd (omega (arith, below))
entry-under (row ∷ rows) [] e v below = absurd (omega (arith, e))
entry-under (row ∷ rows) (k ∷ c) e zero below = refl
entry-under (row ∷ rows) (k ∷ c) e (suc v) below = entry-under rows c (omega (arith, e)) v (omega (arith, below))

-- a row's weight with another entry at a place
row_weight-set : (weights row : List ℕ) (k x : ℕ) → k < length row
    → row_weight weights (set row k x) * get_or weights (get_or row k 0) 0 ≡ row_weight weights row * get_or weights x 0
row_weight-set weights [] k x below = absurd (omega (arith, below))
row_weight-set weights (y ∷ row) zero x below =
    let X : ℕ = get_or weights x 0 in
    let Y : ℕ = get_or weights y 0 in
    let W : ℕ = row_weight weights row in
    mul_comm (X * W) Y ∙ ap (λ (n : ℕ). Y * n) (mul_comm X W) ∙ sym (mul_assoc Y W X)
row_weight-set weights (y ∷ row) (suc k) x below =
    let Y : ℕ = get_or weights y 0 in
    mul_assoc Y (row_weight weights (set row k x)) (get_or weights (get_or row k 0) 0)
    ∙ ap (λ (n : ℕ). Y * n) (row_weight-set weights row k x (omega (arith, below)))
    ∙ sym (mul_assoc Y (row_weight weights row) (get_or weights x 0))

-- the weights of the rows before and after are as those of the entries
pub weight-exchange : (weights : List (List ℕ)) (rows : Rows) (c w : List ℕ) → length weights ≡ length rows
    → Suits rows c w
    → weight_of weights (exchange rows c w) * sample_weight weights (entries_under rows c)
    ≡ weight_of weights rows * sample_weight weights w
weight-exchange weights [] c [] e h = refl
weight-exchange weights [] c (x ∷ w) e h = absurd (let d = h.values in omega (arith, d))
weight-exchange [] (row ∷ rows) c w e h = absurd (omega (arith, e))
weight-exchange (ws ∷ weights) (row ∷ rows) [] w e h = absurd (let d = h.cursors in omega (arith, d))
weight-exchange (ws ∷ weights) (row ∷ rows) (k ∷ c) [] e h = absurd (let d = h.values in omega (arith, d))
weight-exchange (ws ∷ weights) (row ∷ rows) (k ∷ c) (x ∷ w) e h =
    let rest = weight-exchange weights rows c w (omega (arith, e)) (rest_suits row rows k c x w h) in
    let here = row_weight-set ws row k x (h.within 0 (omega arith)) in
    mul-mul-mul_comm (row_weight ws (set row k x)) (weight_of weights (exchange rows c w))
    (get_or ws (get_or row k 0) 0) (sample_weight weights (entries_under rows c))
    ∙ ap₂ (λ (m n : ℕ). m * n) here rest
    ∙ mul-mul-mul_comm (row_weight ws row) (get_or ws x 0) (weight_of weights rows) (sample_weight weights w)
