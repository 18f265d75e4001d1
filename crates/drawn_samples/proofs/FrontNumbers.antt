-- The tables of numbers whose rows begin with given entries: of each of these any of its share, and of the others any
-- number.
use Rattle.std.proofs.Common.{◌≡◌, ℕ, zero, suc, ◌+◌, ◌-◌, ◌*◌, ◌^◌, ◌<◌, ◌≤◌, List, [], ◌∷◌, length, map, sum, get_or, refl, sym, ap, ap₂, subst, ◌∙◌, arith}
use Rattle.std.proofs.lemmas.Nat.{pow-add}
use Rattle.std.proofs.Math.Nat.{mul_assoc, mul_comm, mul-mul-mul_comm, pow-zero}
use Rattle.pop_model.specs.Stacks.{row_of, weighted}
use Rattle.pop_samples.specs.Frames.{Rows}
use Rattle.pop_samples.specs.Weights.{row_weight, weight_of}
use Rattle.pop_samples.specs.Shares.{Gives}
use Rattle.pop_samples.proofs.AllRows.{IsRow}
use Rattle.pop_samples.proofs.Conses.{Fronted}
use Rattle.key_samples.specs.Counts.{Count}
use Rattle.key_samples.specs.Numbers.{AreNumbers, HaveWeights, Numbers, rows_from}
use Rattle.key_samples.specs.Shares.{all_shares, shares}
use Rattle.key_samples.proofs.Counting.{count_fronted, count_one, same_count}
use Rattle.key_samples.proofs.RowNumbers.{entry_count}
use Rattle.key_samples.proofs.Totals.{row_total}

-- so many numbers below 2 ^ 64, whose values begin with these entries
pub record GivesFront (ws : List ℕ) (h : ℕ) (front numbers : List ℕ) : Type 0 where
  pub row : IsRow (2 ^ 64) h numbers
  pub begins : (k : ℕ) → k < length front → get_or (map (weighted ws) numbers) k 0 ≡ get_or front k 0

-- they are as many as the shares of these, and powers of 2 ^ 64 for the others
pub front_count : (ws : List ℕ) → 0 < sum ws → (h : ℕ) (front : List ℕ) → length front ≤ h
    → ((k : ℕ) → k < length front → get_or front k 0 < length ws)
    → Count (GivesFront ws h front) (row_weight (shares ws) front * (2 ^ 64) ^ (h - length front))
front_count ws some h [] low values =
    subst (Count (GivesFront ws h []))
    (let one = mul_comm 1 ((2 ^ 64) ^ h) in
    let all : h ≡ h - 0 = omega arith in
    let same : (2 ^ 64) ^ h ≡ 1 * (2 ^ 64) ^ h = omega (arith, one) in
    same ∙ ap (λ (n : ℕ). 1 * (2 ^ 64) ^ n) all)
    (same_count (IsRow (2 ^ 64) h) (GivesFront ws h []) ((2 ^ 64) ^ h) (row_total (2 ^ 64) h)
    (λ ns row. record { row = row; begins = λ k less. absurd (omega (arith, less)) }) (λ ns g. g.row))
front_count ws some zero (x ∷ front) low values = absurd (omega (arith, low))
front_count ws some (suc h) (x ∷ front) low values =
    subst (Count (GivesFront ws (suc h) (x ∷ front)))
    (let behind : h - length front ≡ suc h - length (x ∷ front) = omega arith in
    sym (mul_assoc (get_or (shares ws) x 0) (row_weight (shares ws) front) ((2 ^ 64) ^ (h - length front)))
    ∙ ap (λ (n : ℕ). row_weight (shares ws) (x ∷ front) * (2 ^ 64) ^ n) behind)
    (same_count (Fronted (Gives ws x) (GivesFront ws h front)) (GivesFront ws (suc h) (x ∷ front))
    (get_or (shares ws) x 0 * (row_weight (shares ws) front * (2 ^ 64) ^ (h - length front)))
    (count_fronted (Gives ws x) (GivesFront ws h front) (get_or (shares ws) x 0)
    (row_weight (shares ws) front * (2 ^ 64) ^ (h - length front)) (entry_count ws some x (values 0 (omega arith)))
    (front_count ws some h front (omega (arith, low)) (λ k less. values (suc k) (omega (arith, less))))) to fro)
  where
    made : (n : ℕ) (ns : List ℕ) → n < 2 ^ 64 → IsRow (2 ^ 64) h ns → (k : ℕ) → k < length (n ∷ ns)
        → get_or (n ∷ ns) k 0 < 2 ^ 64
    made n ns first g zero less = first
    made n ns first g (suc k) less = g.values k (omega (arith, less))

    begun : (n : ℕ) (ns : List ℕ) → weighted ws n ≡ x → GivesFront ws h front ns → (k : ℕ) → k < length (x ∷ front)
        → get_or (map (weighted ws) (n ∷ ns)) k 0 ≡ get_or (x ∷ front) k 0
    begun n ns is g zero less = is
    begun n ns is g (suc k) less = g.begins k (omega (arith, less))

    to : (z : List ℕ) → Fronted (Gives ws x) (GivesFront ws h front) z → GivesFront ws (suc h) (x ∷ front) z
    to z f = subst (GivesFront ws (suc h) (x ∷ front)) (sym f.is) (record {
      row = record {
        size = ap suc f.has_rest.row.size;
        values = made f.front f.rest f.has_front.below f.has_rest.row;
      };
      begins = begun f.front f.rest f.has_front.value f.has_rest;
    })

    fro : (z : List ℕ) → GivesFront ws (suc h) (x ∷ front) z → Fronted (Gives ws x) (GivesFront ws h front) z
    fro [] g = absurd (let e = g.row.size in omega (arith, e))
    fro (n ∷ ns) g = record {
      front = n;
      rest = ns;
      is = refl;
      has_front = record { below = g.row.values 0 (omega arith); value = g.begins 0 (omega arith) };
      has_rest = record {
        row = record {
          size = let e = g.row.size in omega (arith, e);
          values = λ k less. g.row.values (suc k) (omega (arith, less));
        };
        begins = λ k less. g.begins (suc k) (omega (arith, less));
      };
    }

-- a table of numbers whose rows begin with these
pub record GivesFronts (weights : List (List ℕ)) (heights : List ℕ) (fronts : Rows) (t : Numbers) : Type 0 where
  pub numbers : AreNumbers heights t
  pub begins : (v k : ℕ) → v < length fronts → k < length (row_of fronts v)
      → get_or (row_of (rows_from weights t) v) k 0 ≡ get_or (row_of fronts v) k 0

-- entries with which rows of these heights may begin
pub record AreFronts (weights : List (List ℕ)) (heights : List ℕ) (fronts : Rows) : Type 0 where
  pub count : length fronts ≡ length weights
  pub heights_count : length heights ≡ length weights
  pub low : (v : ℕ) → v < length fronts → length (row_of fronts v) ≤ get_or heights v 0
  pub values : (v k : ℕ) → v < length fronts → k < length (row_of fronts v)
      → get_or (row_of fronts v) k 0 < length (row_of weights v)

-- the entries behind them
abbrev pub rest_of : List ℕ → Rows → ℕ
rest_of [] fronts = 0
rest_of (h ∷ heights) [] = h + rest_of heights []
rest_of (h ∷ heights) (front ∷ fronts) = (h - length front) + rest_of heights fronts

-- such tables are as many as the product of the shares, and powers for the others
pub fronts_count : (weights : List (List ℕ)) → HaveWeights weights → (heights : List ℕ) (fronts : Rows)
    → AreFronts weights heights fronts
    → Count (GivesFronts weights heights fronts)
    (weight_of (all_shares weights) fronts * (2 ^ 64) ^ rest_of heights fronts)
fronts_count [] have [] [] are =
    subst (Count (GivesFronts [] [] [])) (let one = pow-zero (2 ^ 64) in let s : 1 ≡ 1 * (2 ^ 64) ^ 0 = omega (arith, one) in s)
    (count_one [] (GivesFronts [] [] [])
    (record {
      numbers = record { lengths = refl; below = λ v k less. absurd (omega (arith, less)) };
      begins = λ v k less. absurd (omega (arith, less));
    }) empty)
  where
    empty : (t : Numbers) → GivesFronts [] [] [] t → [] ≡ t
    empty [] g = refl
    empty (ns ∷ t) g = absurd
        (let e : length (map length (ns ∷ t)) ≡ 0 = ap (λ (hs : List ℕ). length hs) g.numbers.lengths in
        omega (arith, e))
fronts_count [] have (h ∷ heights) fronts are = absurd (let e = are.heights_count in omega (arith, e))
fronts_count [] have [] (front ∷ fronts) are = absurd (let e = are.count in omega (arith, e))
fronts_count (ws ∷ weights) have [] fronts are = absurd (let e = are.heights_count in omega (arith, e))
fronts_count (ws ∷ weights) have (h ∷ heights) [] are = absurd (let e = are.count in omega (arith, e))
fronts_count (ws ∷ weights) have (h ∷ heights) (front ∷ fronts) are =
    let R : ℕ = row_weight (shares ws) front in
    let W : ℕ = weight_of (all_shares weights) fronts in
    let a : ℕ = h - length front in
    let b : ℕ = rest_of heights fronts in
    subst (Count (GivesFronts (ws ∷ weights) (h ∷ heights) (front ∷ fronts)))
    (mul-mul-mul_comm R ((2 ^ 64) ^ a) W ((2 ^ 64) ^ b) ∙ ap (λ (n : ℕ). R * W * n) (sym (pow-add (2 ^ 64) a b)))
    (same_count (Fronted (GivesFront ws h front) (GivesFronts weights heights fronts))
    (GivesFronts (ws ∷ weights) (h ∷ heights) (front ∷ fronts)) (R * (2 ^ 64) ^ a * (W * (2 ^ 64) ^ b))
    (count_fronted (GivesFront ws h front) (GivesFronts weights heights fronts) (R * (2 ^ 64) ^ a) (W * (2 ^ 64) ^ b)
    (front_count ws (have 0 [] (omega arith)) h front (are.low 0 (omega arith))
    (λ k less. are.values 0 k (omega arith) less))
    (fronts_count weights (λ k d less. have (suc k) d (omega (arith, less))) heights fronts (record {
      count = let e = are.count in omega (arith, e);
      heights_count = let e = are.heights_count in omega (arith, e);
      low = λ v less. are.low (suc v) (omega (arith, less));
      values = λ v k less inside. are.values (suc v) k (omega (arith, less)) inside;
    }))) to fro)
  where
    made : (ns : List ℕ) (t : Numbers) → IsRow (2 ^ 64) h ns → AreNumbers heights t → (v k : ℕ) → v < length (ns ∷ t)
        → k < length (row_of (ns ∷ t) v) → get_or (row_of (ns ∷ t) v) k 0 < 2 ^ 64
    made ns t p q zero k less inside = p.values k inside
    made ns t p q (suc v) k less inside = q.below v k (omega (arith, less)) inside

    begun : (ns : List ℕ) (t : Numbers) → GivesFront ws h front ns → GivesFronts weights heights fronts t → (v k : ℕ)
        → v < length (front ∷ fronts) → k < length (row_of (front ∷ fronts) v)
        → get_or (row_of (rows_from (ws ∷ weights) (ns ∷ t)) v) k 0 ≡ get_or (row_of (front ∷ fronts) v) k 0
    begun ns t p q zero k less inside = p.begins k inside
    begun ns t p q (suc v) k less inside = q.begins v k (omega (arith, less)) inside

    to : (z : Numbers) → Fronted (GivesFront ws h front) (GivesFronts weights heights fronts) z
        → GivesFronts (ws ∷ weights) (h ∷ heights) (front ∷ fronts) z
    to z f = subst (GivesFronts (ws ∷ weights) (h ∷ heights) (front ∷ fronts)) (sym f.is) (record {
      numbers = record {
        lengths = ap₂ (λ (n : ℕ) (ns : List ℕ). n ∷ ns) f.has_front.row.size f.has_rest.numbers.lengths;
        below = made f.front f.rest f.has_front.row f.has_rest.numbers;
      };
      begins = begun f.front f.rest f.has_front f.has_rest;
    })

    fro : (z : Numbers) → GivesFronts (ws ∷ weights) (h ∷ heights) (front ∷ fronts) z
        → Fronted (GivesFront ws h front) (GivesFronts weights heights fronts) z
    fro [] g = absurd
        (let s : 0 ≡ length (h ∷ heights) = ap (λ (hs : List ℕ). length hs) g.numbers.lengths in omega (arith, s))
    fro (ns ∷ t) g =
        let long : ◌≡◌ {A = List ℕ} (length ns ∷ map length t) (h ∷ heights) = g.numbers.lengths in
        record {
          front = ns;
          rest = t;
          is = refl;
          has_front = record {
            row = record {
              size = (let s : length ns ≡ h = cc in s);
              values = λ k less. g.numbers.below 0 k (omega arith) less;
            };
            begins = λ k less. g.begins 0 k (omega arith) less;
          };
          has_rest = record {
            numbers = record {
              lengths = (let s : map length t ≡ heights = cc in s);
              below = λ v k less inside. g.numbers.below (suc v) k (omega (arith, less)) inside;
            };
            begins = λ v k less inside. g.begins (suc v) k (omega (arith, less)) inside;
          };
        }
