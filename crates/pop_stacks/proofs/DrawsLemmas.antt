-- Running sums and the weights that they are the sums of. The sums of weights rise, since no weight
-- is 0, and their differences are the weights again. So the least place of a sum above m is the
-- least value whose weights up to it exceed m, which is the value that the weights give. A number
-- is scaled in 64 bits by the halves of its product with the sum.
use Rattle.std.proofs.Common.{inl, inr, ◌≡◌, ℕ, zero, suc, ◌+◌, ◌-◌, ◌*◌, ◌/◌, ◌%◌, ◌^◌, ◌<◌, ◌≤◌, cond, List, [], ◌∷◌, length, get_or, sum, All, refl, sym, ap, ◌∙◌, arith}
use Rattle.std.proofs.lemmas.Bool.{cases_lt, lt-ltb, le-ltb}
use Rattle.std.proofs.lemmas.List.Sums.{sum_by-cons}
use Rattle.std.proofs.lemmas.Nat.{shr-shr, mul-le, div-add-mod'}
use Rattle.std.proofs.Math.Nat.{mul_assoc, add-mul}
use Rattle.pop_model.specs.Stacks.{scaled, first_above, weighted}
use Rattle.pop_rows.specs.PrefixSums.{running}
use Rattle.pop_stacks.specs.Draws.{differences, RisesFrom}

-- the sum of a list with a number more
pub sum-cons : (x : ℕ) (xs : List ℕ) → sum (x ∷ xs) ≡ x + sum xs
sum-cons x xs = sum_by-cons (λ (n : ℕ). n) x xs

-- there are as many differences as sums
pub length-differences : (total : ℕ) (sums : List ℕ) → length (differences total sums) ≡ length sums
length-differences total [] = refl
length-differences total (x ∷ sums) = ap suc (length-differences x sums)

-- the differences of the running sums are the weights
pub differences-running : (total : ℕ) (weights : List ℕ) → differences total (running total weights) ≡ weights
differences-running total [] = refl
differences-running total (w ∷ weights) =
    let first : (total + w) - total ≡ w = omega arith in
    ap (λ x. x ∷ differences (total + w) (running (total + w) weights)) first
    ∙ ap (λ xs. w ∷ xs) (differences-running (total + w) weights)

-- where no weight is 0 the sums rise
pub rises-running : (total : ℕ) (weights : List ℕ) → All (λ w. 0 < w) weights → RisesFrom total (running total weights)
rises-running total [] positive = tt
rises-running total (w ∷ weights) positive =
    let first : 0 < w = positive 0 0 (omega arith) in
    (omega arith, rises-running (total + w) weights (λ k d below. positive (suc k) d (omega arith)))

-- the last of some sums that rise from a number
abbrev pub last_from : ℕ → List ℕ → ℕ
last_from total [] = total
last_from total (x ∷ sums) = last_from x sums

-- the last sum is what all weights add
pub sum-differences : (total : ℕ) (sums : List ℕ) → RisesFrom total sums
    → total + sum (differences total sums) ≡ last_from total sums
sum-differences total [] rising = omega arith
sum-differences total (x ∷ sums) rising =
    let rest = sum-differences x sums rising.1 in
    let first = rising.0 in
    let split : sum (differences total (x ∷ sums)) ≡ (x - total) + sum (differences x sums) =
    sum-cons (x - total) (differences x sums) in
    omega (arith, rest, first, split)

-- the last sum by its place
pub last_at : (total : ℕ) (sums : List ℕ) (d : ℕ) → 0 < length sums
    → last_from total sums ≡ get_or sums (length sums - 1) d
last_at total [] d some = absurd (omega arith)
last_at total (x ∷ []) d some = refl
last_at total (x ∷ y ∷ sums) d some =
    let place : length (x ∷ y ∷ sums) - 1 ≡ suc (length (y ∷ sums) - 1) = omega arith in
    last_at x (y ∷ sums) d (omega arith) ∙ ap (λ k. get_or (x ∷ y ∷ sums) k d) (sym place)

-- each sum is above the number that they rise from
pub rises_at : (total : ℕ) (sums : List ℕ) (k : ℕ) → RisesFrom total sums → k < length sums → total < get_or sums k 0
rises_at total [] k rising below = absurd (omega arith)
rises_at total (x ∷ sums) zero rising below = rising.0
rises_at total (x ∷ sums) (suc k) rising below =
    let rest = rises_at x sums k rising.1 (omega arith) in
    let first = rising.0 in
    omega (arith, rest, first)

-- each sum is above the number by its place at least
rises_to : (total : ℕ) (sums : List ℕ) (k : ℕ) → RisesFrom total sums → k < length sums
    → total + suc k ≤ get_or sums k 0
rises_to total [] k rising below = absurd (omega arith)
rises_to total (x ∷ sums) zero rising below = let first = rising.0 in omega (arith, first)
rises_to total (x ∷ sums) (suc k) rising below =
    let rest = rises_to x sums k rising.1 (omega arith) in
    let first = rising.0 in
    omega (arith, rest, first)

-- a later sum is more by the places between at least
rises_by : (total : ℕ) (sums : List ℕ) (i j : ℕ) → RisesFrom total sums → i ≤ j → j < length sums
    → get_or sums i 0 + (j - i) ≤ get_or sums j 0
rises_by total [] i j rising le below = absurd (omega arith)
rises_by total (x ∷ sums) zero zero rising le below = omega arith
rises_by total (x ∷ sums) zero (suc j) rising le below =
    let rest = rises_to x sums j rising.1 (omega arith) in omega (arith, rest)
rises_by total (x ∷ sums) (suc i) zero rising le below = absurd (omega arith)
rises_by total (x ∷ sums) (suc i) (suc j) rising le below =
    let rest = rises_by x sums i j rising.1 (omega arith) (omega arith) in omega (arith, rest)

-- so a later sum is no less
pub rises_between : (total : ℕ) (sums : List ℕ) (i j : ℕ) → RisesFrom total sums → i ≤ j → j < length sums
    → get_or sums i 0 ≤ get_or sums j 0
rises_between total sums i j rising le below =
    let more = rises_by total sums i j rising le below in omega (arith, more)

-- sums of which the last is their number are 1, 2, 3 and so on
pub unit_sums : (sums : List ℕ) (k : ℕ) → RisesFrom 0 sums → k < length sums
    → get_or sums (length sums - 1) 0 ≡ length sums → get_or sums k 0 ≡ suc k
unit_sums sums k rising below units =
    let low = rises_to 0 sums k rising below in
    let high = rises_by 0 sums k (length sums - 1) rising (omega arith) (omega arith) in
    omega (arith, low, high, units)

-- the least place of a sum above m is the least value whose weights up to it exceed m
pub first_above-differences : (total : ℕ) (sums : List ℕ) (m place : ℕ) → RisesFrom total sums → total ≤ m
    → place < length sums → m < get_or sums place 0 → ((k : ℕ) → k < place → get_or sums k 0 ≤ m)
    → first_above (differences total sums) (m - total) ≡ place
first_above-differences total [] m place rising le below above least = absurd (omega arith)
first_above-differences total (x ∷ sums) m zero rising le below above least =
    let here : m - total < x - total = omega arith in
    ap (λ b. cond b 0 (suc (first_above (differences x sums) ((m - total) - (x - total)))))
    (lt-ltb (m - total) (x - total) here)
first_above-differences total (x ∷ sums) m (suc place) rising le below above least =
    let first : x ≤ m = least zero (omega arith) in
    let here : x - total ≤ m - total = omega arith in
    let rest : first_above (differences x sums) (m - x) ≡ place =
    first_above-differences x sums m place rising.1 first (omega arith) above (λ k lt. least (suc k) (omega arith)) in
    let up : total < x = rising.0 in
    let same : (m - total) - (x - total) ≡ m - x = omega arith in
    ap (λ b. cond b 0 (suc (first_above (differences x sums) ((m - total) - (x - total)))))
    (le-ltb (m - total) (x - total) here)
    ∙ ap (λ n. suc (first_above (differences x sums) n)) same ∙ ap suc rest

-- so the place that is found is the value that the weights give
pub drawn : (sums : List ℕ) (number m place : ℕ) → 0 < length sums → RisesFrom 0 sums
    → m ≡ scaled number (get_or sums (length sums - 1) 0) → place < length sums → m < get_or sums place 0
    → ((k : ℕ) → k < place → get_or sums k 0 ≤ m) → place ≡ weighted (differences 0 sums) number
drawn sums number m place some rising is within above least =
    let total : sum (differences 0 sums) ≡ get_or sums (length sums - 1) 0 =
    omega (arith, sum-differences 0 sums rising, last_at 0 sums 0 some) in
    let same : m ≡ scaled number (sum (differences 0 sums)) = is ∙ ap (scaled number) (sym total) in
    let from_zero : m - 0 ≡ m = omega arith in
    sym (first_above-differences 0 sums m place rising (omega arith) within above least)
    ∙ ap (first_above (differences 0 sums)) (from_zero ∙ same)

-- the product with the number of two words, by its halves
product_parts : (low high total q r : ℕ) → q * 2 ^ 32 + r ≡ low * total
    → (low + 2 ^ 32 * high) * total ≡ 2 ^ 32 * (high * total + q) + r
product_parts low high total q r split =
    let spread : (low + 2 ^ 32 * high) * total ≡ low * total + 2 ^ 32 * high * total =
    add-mul low (2 ^ 32 * high) total in
    let moved : 2 ^ 32 * high * total ≡ 2 ^ 32 * (high * total) = mul_assoc (2 ^ 32) high total in
    omega (arith, spread, moved, split)

-- scaling by halves
pub scaled-halves : (low high total : ℕ)
    → scaled (low + 2 ^ 32 * high) total ≡ (high * total + low * total / 2 ^ 32) / 2 ^ 32
scaled-halves low high total =
    let q = low * total / 2 ^ 32 in
    let r = low * total % 2 ^ 32 in
    let whole : q * 2 ^ 32 + r ≡ low * total = div-add-mod' (low * total) (2 ^ 32) in
    let parts : (low + 2 ^ 32 * high) * total ≡ 2 ^ 32 * (high * total + q) + r =
    product_parts low high total q r whole in
    let small : r < 2 ^ 32 = omega arith in
    let inner : (low + 2 ^ 32 * high) * total / 2 ^ 32 ≡ high * total + q = omega (arith, parts, small) in
    sym (shr-shr ((low + 2 ^ 32 * high) * total) 32 32) ∙ ap (λ n. n / 2 ^ 32) inner

-- a number below 2 ^ 64 is scaled below the total
pub scaled_below : (number total : ℕ) → number < 2 ^ 64 → 0 < total → scaled number total < total
scaled_below number total small some =
    let most : number * total ≤ (2 ^ 64 - 1) * total =
    mul-le number total (2 ^ 64 - 1) total (omega arith) (omega arith) in
    omega (arith, most)

-- of two values of weight 1 the top bit of the number chooses
pub halves : (low high : ℕ) → low < 2 ^ 32 → high < 2 ^ 32
    → high / 2 ^ 31 ≡ weighted (1 ∷ 1 ∷ []) (low + 2 ^ 32 * high)
halves low high low_fits high_fits =
    let m = scaled (low + 2 ^ 32 * high) 2 in
    let is : m ≡ high / 2 ^ 31 = omega arith in
    elim (cases_lt m 1) [
      | inl small ↦
          let first : m ≡ 0 = omega arith in
          sym is ∙ first ∙ ap (first_above (1 ∷ 1 ∷ [])) (sym first)
      | inr more ↦
          let second : m ≡ 1 = omega arith in
          sym is ∙ second ∙ ap (first_above (1 ∷ 1 ∷ [])) (sym second)
    ]
