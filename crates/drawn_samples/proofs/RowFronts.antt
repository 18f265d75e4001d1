-- The entries of rows up to cursors, with a sample's values at them: their lengths, their entries and their weight.
use Rattle.std.proofs.Common.{◌≡◌, ℕ, zero, suc, ◌+◌, ◌*◌, ◌<◌, ◌≤◌, List, [], ◌∷◌, length, map, sum, get_or, take, replicate, refl, sym, ap, ap₂, ◌∙◌, arith}
use Rattle.std.proofs.Math.Nat.{mul_assoc, mul_comm, mul_right_comm}
use Rattle.pop_model.specs.Stacks.{row_of}
use Rattle.pop_model.specs.Popping.{cursor}
use Rattle.pop_stacks.proofs.DrawsLemmas.{sum-cons}
use Rattle.pop_samples.specs.Frames.{Rows}
use Rattle.pop_samples.specs.Weights.{row_weight, sample_weight, weight_of}
use Rattle.drawn_samples.proofs.Bumps.{belows}
use Rattle.drawn_samples.proofs.FrontNumbers.{rest_of}

-- the entries below a cursor, and a value behind them
abbrev pub front : List ℕ → ℕ → ℕ → List ℕ
front row zero x = x ∷ []
front [] (suc k) x = []
front (y ∷ row) (suc k) x = y ∷ front row k x

-- they are one more than the cursor says
pub length-front : (row : List ℕ) (k x : ℕ) → k ≤ length row → length (front row k x) ≡ suc k
length-front row zero x le = refl
length-front [] (suc k) x le = absurd (omega (arith, le))
length-front (y ∷ row) (suc k) x le = ap suc (length-front row k x (omega (arith, le)))

-- below it they are those of the row
pub front_below : (row : List ℕ) (k x j : ℕ) → k ≤ length row → j < k → get_or (front row k x) j 0 ≡ get_or row j 0
front_below row zero x j le less = absurd (omega (arith, less))
front_below [] (suc k) x j le less = absurd (omega (arith, le))
front_below (y ∷ row) (suc k) x zero le less = refl
front_below (y ∷ row) (suc k) x (suc j) le less = front_below row k x j (omega (arith, le)) (omega (arith, less))

-- at it the value
pub front_at : (row : List ℕ) (k x : ℕ) → k ≤ length row → get_or (front row k x) k 0 ≡ x
front_at row zero x le = refl
front_at [] (suc k) x le = absurd (omega (arith, le))
front_at (y ∷ row) (suc k) x le = front_at row k x (omega (arith, le))

-- they weigh as both
pub front_weight : (ws row : List ℕ) (k x : ℕ) → k ≤ length row
    → row_weight ws (front row k x) ≡ row_weight ws (take k row) * get_or ws x 0
front_weight ws row zero x le = mul_comm (get_or ws x 0) 1
front_weight ws [] (suc k) x le = absurd (omega (arith, le))
front_weight ws (y ∷ row) (suc k) x le =
    ap (λ (n : ℕ). get_or ws y 0 * n) (front_weight ws row k x (omega (arith, le)))
    ∙ sym (mul_assoc (get_or ws y 0) (row_weight ws (take k row)) (get_or ws x 0))

-- so of all rows
abbrev pub fronts : Rows → List ℕ → List ℕ → Rows
fronts [] c w = []
fronts (row ∷ rows) [] w = []
fronts (row ∷ rows) (k ∷ c) [] = []
fronts (row ∷ rows) (k ∷ c) (x ∷ w) = front row k x ∷ fronts rows c w

-- as many cursors and values as rows, and no cursor past its row
pub record Fits (rows : Rows) (c w : List ℕ) : Type 0 where
  pub cursors : length c ≡ length rows
  pub values : length w ≡ length rows
  pub within : (v : ℕ) → v < length rows → cursor c v ≤ length (row_of rows v)

-- so it is behind the first
pub fits_rest : (row : List ℕ) (rows : Rows) (k : ℕ) (c : List ℕ) (x : ℕ) (w : List ℕ) → Fits (row ∷ rows) (k ∷ c) (x ∷ w)
    → Fits rows c w
fits_rest row rows k c x w h = record {
  cursors = let e = h.cursors in omega (arith, e);
  values = let e = h.values in omega (arith, e);
  within = λ v below. h.within (suc v) (omega (arith, below));
}

-- there is one for each row
pub length-fronts : (rows : Rows) (c w : List ℕ) → Fits rows c w → length (fronts rows c w) ≡ length rows
length-fronts [] c w h = refl
length-fronts (row ∷ rows) [] w h = absurd (let e = h.cursors in omega (arith, e))
length-fronts (row ∷ rows) (k ∷ c) [] h = absurd (let e = h.values in omega (arith, e))
length-fronts (row ∷ rows) (k ∷ c) (x ∷ w) h =
    let rest = length-fronts rows c w (fits_rest row rows k c x w h) in ap suc rest

-- that of a variable
pub fronts_at : (rows : Rows) (c w : List ℕ) → Fits rows c w → (v : ℕ) → v < length rows
    → row_of (fronts rows c w) v ≡ front (row_of rows v) (cursor c v) (get_or w v 0)
fronts_at [] c w h v below = absurd (omega (arith, below))
fronts_at (row ∷ rows) [] w h v below = absurd (let e = h.cursors in omega (arith, e))
fronts_at (row ∷ rows) (k ∷ c) [] h v below = absurd (let e = h.values in omega (arith, e))
fronts_at (row ∷ rows) (k ∷ c) (x ∷ w) h zero below = refl
fronts_at (row ∷ rows) (k ∷ c) (x ∷ w) h (suc v) below =
    fronts_at rows c w (fits_rest row rows k c x w h) v (omega (arith, below))

-- they weigh as what lies below the cursors, and the values
pub fronts_weight : (weights : List (List ℕ)) (rows : Rows) (c w : List ℕ) → length weights ≡ length rows → Fits rows c w
    → weight_of weights (fronts rows c w) ≡ weight_of weights (belows rows c) * sample_weight weights w
fronts_weight weights [] c [] e h = refl
fronts_weight weights [] c (x ∷ w) e h = absurd (let d = h.values in omega (arith, d))
fronts_weight [] (row ∷ rows) c w e h = absurd (omega (arith, e))
fronts_weight (ws ∷ weights) (row ∷ rows) [] w e h = absurd (let d = h.cursors in omega (arith, d))
fronts_weight (ws ∷ weights) (row ∷ rows) (k ∷ c) [] e h = absurd (let d = h.values in omega (arith, d))
fronts_weight (ws ∷ weights) (row ∷ rows) (k ∷ c) (x ∷ w) e h =
    let R : ℕ = row_weight ws (take k row) in
    let X : ℕ = get_or ws x 0 in
    let B : ℕ = weight_of weights (belows rows c) in
    let S : ℕ = sample_weight weights w in
    ap₂ (λ (m n : ℕ). m * n) (front_weight ws row k x (h.within 0 (omega arith)))
    (fronts_weight weights rows c w (omega (arith, e)) (fits_rest row rows k c x w h))
    ∙ sym (mul_assoc (R * X) B S) ∙ ap (λ (n : ℕ). n * S) (mul_right_comm R X B) ∙ mul_assoc (R * B) X S

-- what is left behind them
pub fronts_rest : (heights : List ℕ) (rows : Rows) (c w : List ℕ) → map length rows ≡ heights → Fits rows c w
    → ((v : ℕ) → v < length rows → cursor c v < length (row_of rows v))
    → rest_of heights (fronts rows c w) + sum c + length rows ≡ sum heights
fronts_rest [] [] [] w e h inside = refl
fronts_rest [] [] (k ∷ c) w e h inside = absurd (let d = h.cursors in omega (arith, d))
fronts_rest (n ∷ heights) [] c w e h inside =
    absurd (let s : 0 ≡ length (n ∷ heights) = ap (λ (ns : List ℕ). length ns) e in omega (arith, s))
fronts_rest heights (row ∷ rows) [] w e h inside = absurd (let d = h.cursors in omega (arith, d))
fronts_rest heights (row ∷ rows) (k ∷ c) [] e h inside = absurd (let d = h.values in omega (arith, d))
fronts_rest [] (row ∷ rows) (k ∷ c) (x ∷ w) e h inside =
    absurd (let s : length (map length (row ∷ rows)) ≡ 0 = ap (λ (ns : List ℕ). length ns) e in omega (arith, s))
fronts_rest (n ∷ heights) (row ∷ rows) (k ∷ c) (x ∷ w) e h inside =
    let both : ◌≡◌ {A = List ℕ} (length row ∷ map length rows) (n ∷ heights) = e in
    let high : length row ≡ n = cc in
    let behind : map length rows ≡ heights = cc in
    let rest = fronts_rest heights rows c w behind (fits_rest row rows k c x w h)
    (λ v below. inside (suc v) (omega (arith, below))) in
    let long = length-front row k x (h.within 0 (omega arith)) in
    let low : k < length row = inside 0 (omega arith) in
    let a = sum-cons k c in
    let b = sum-cons n heights in
    omega (arith, rest, long, low, a, b, high)

-- nothing lies below zeros
pub below_none : (weights : List (List ℕ)) (rows : Rows) (n : ℕ) → weight_of weights (belows rows (replicate n 0)) ≡ 1
below_none [] [] n = refl
below_none (ws ∷ weights) [] n = refl
below_none [] (row ∷ rows) zero = refl
below_none [] (row ∷ rows) (suc n) = refl
below_none (ws ∷ weights) (row ∷ rows) zero = refl
below_none (ws ∷ weights) (row ∷ rows) (suc n) = let rest = below_none weights rows n in omega (arith, rest)

-- they sum to nothing
pub sum_none : (n : ℕ) → sum (replicate n 0) ≡ 0
sum_none zero = refl
sum_none (suc n) = let rest = sum_none n in let more = sum-cons 0 (replicate n 0) in omega (arith, rest, more)
