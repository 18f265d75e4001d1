-- All rows of given lengths, with values below given numbers, are a finite list without repetition: entry by entry, and
-- row by row.
use Rattle.std.proofs.Common.{inl, inr, ◌≡◌, ℕ, zero, suc, ◌<◌, List, [], ◌∷◌, length, map, get_or, refl, sym, ap, ap₂, subst, arith, Contains}
use Rattle.std.proofs.lemmas.Bool.{cases_eq}
use Rattle.pop_model.specs.Stacks.{row_of}
use Rattle.pop_model.proofs.Rising.{member_cases, head_member, tail_member, none_in}
use Rattle.pop_samples.specs.Frames.{AreRows, Rows}
use Rattle.pop_samples.specs.Lists.{AreAll}
use Rattle.pop_samples.proofs.Matching.{Differ, cons_differs}
use Rattle.pop_samples.proofs.Conses.{Fronted, all_conses, conses, none_differ, one_alone, same_kind}

-- the numbers below this one
abbrev pub numbers_below : ℕ → List ℕ
numbers_below zero = []
numbers_below (suc n) = n ∷ numbers_below n

-- each of them is in it
below_in : (n k : ℕ) → k < n → Contains (numbers_below n) k
below_in zero k less = absurd (omega (arith, less))
below_in (suc n) k less = elim (cases_eq n k) [
  | inl is ↦ subst (λ (j : ℕ). Contains (numbers_below (suc n)) j) is (head_member n (numbers_below n))
  | inr other ↦ tail_member n (numbers_below n) k (below_in n k (omega (arith, less, other)))
]

-- and no other
below_less : (n k : ℕ) → Contains (numbers_below n) k → k < n
below_less zero k has = absurd (none_in k has)
below_less (suc n) k has = elim (member_cases n (numbers_below n) k has) [
  | inl is ↦ omega (arith, is)
  | inr behind ↦ let less = below_less n k behind in omega (arith, less)
]

-- each once
below_differ : (n : ℕ) → Differ (numbers_below n)
below_differ zero = none_differ
below_differ (suc n) =
    cons_differs n (numbers_below n)
    (λ k has same. let less = below_less n k has in absurd (omega (arith, less, same))) (below_differ n)

-- so they are all
pub all_below : (n : ℕ) → AreAll (λ k. k < n) (numbers_below n)
all_below n = record { differ = below_differ n; exact = λ k. (below_less n k, below_in n k) }

-- a row of this length, of values below this number
pub record IsRow (d h : ℕ) (row : List ℕ) : Type 0 where
  pub size : length row ≡ h
  pub values : (k : ℕ) → k < length row → get_or row k 0 < d

-- the list of all rows of this length
abbrev pub all_row_list : ℕ → ℕ → List (List ℕ)
all_row_list d zero = [] ∷ []
all_row_list d (suc h) = conses (numbers_below d) (all_row_list d h)

-- it has all of them
pub all_row : (d h : ℕ) → AreAll (IsRow d h) (all_row_list d h)
all_row d zero = one_alone [] (IsRow d 0)
    (record { size = refl; values = λ k less. absurd (omega (arith, less)) }) empty
  where
    empty : (y : List ℕ) → IsRow d 0 y → [] ≡ y
    empty [] p = refl
    empty (x ∷ y) p = absurd (let e = p.size in omega (arith, e))
all_row d (suc h) =
    same_kind (Fronted (λ (k : ℕ). k < d) (IsRow d h)) (IsRow d (suc h)) (conses (numbers_below d) (all_row_list d h))
    (all_conses (λ (k : ℕ). k < d) (IsRow d h) (numbers_below d) (all_row_list d h) (all_below d) (all_row d h)) to fro
  where
    made : (x : ℕ) (row : List ℕ) → x < d → IsRow d h row → (k : ℕ) → k < length (x ∷ row) → get_or (x ∷ row) k 0 < d
    made x row low p zero less = low
    made x row low p (suc k) less = p.values k (omega (arith, less))

    to : (z : List ℕ) → Fronted (λ (k : ℕ). k < d) (IsRow d h) z → IsRow d (suc h) z
    to z f = subst (IsRow d (suc h)) (sym f.is) (record {
      size = ap suc f.has_rest.size;
      values = made f.front f.rest f.has_front f.has_rest;
    })

    fro : (z : List ℕ) → IsRow d (suc h) z → Fronted (λ (k : ℕ). k < d) (IsRow d h) z
    fro [] p = absurd (let e = p.size in omega (arith, e))
    fro (x ∷ row) p = record {
      front = x;
      rest = row;
      is = refl;
      has_front = p.values 0 (omega arith);
      has_rest = record {
        size = let e = p.size in omega (arith, e);
        values = λ k less. p.values (suc k) (omega (arith, less));
      };
    }

-- the list of all rows of these lengths
abbrev pub all_rows_list : List (List ℕ) → List ℕ → List Rows
all_rows_list weights [] = [] ∷ []
all_rows_list [] (h ∷ heights) = []
all_rows_list (ws ∷ weights) (h ∷ heights) = conses (all_row_list (length ws) h) (all_rows_list weights heights)

-- it has all of them
pub all_rows : (weights : List (List ℕ)) (heights : List ℕ) → length heights ≡ length weights
    → AreAll (AreRows weights heights) (all_rows_list weights heights)
all_rows weights [] e =
    one_alone [] (AreRows weights [])
    (record { lengths = refl; values = λ v k less. absurd (omega (arith, less)) }) empty
  where
    empty : (y : Rows) → AreRows weights [] y → [] ≡ y
    empty [] p = refl
    empty (x ∷ y) p = absurd
        (let e : length (map length (x ∷ y)) ≡ 0 = ap (λ (ns : List ℕ). length ns) p.lengths in omega (arith, e))
all_rows [] (h ∷ heights) e = absurd (omega (arith, e))
all_rows (ws ∷ weights) (h ∷ heights) e =
    same_kind (Fronted (IsRow (length ws) h) (AreRows weights heights)) (AreRows (ws ∷ weights) (h ∷ heights))
    (conses (all_row_list (length ws) h) (all_rows_list weights heights))
    (all_conses (IsRow (length ws) h) (AreRows weights heights) (all_row_list (length ws) h)
    (all_rows_list weights heights) (all_row (length ws) h) (all_rows weights heights (omega (arith, e)))) to fro
  where
    made : (row : List ℕ) (rows : Rows) → IsRow (length ws) h row → AreRows weights heights rows
        → (v k : ℕ) → v < length (row ∷ rows) → k < length (row_of (row ∷ rows) v)
        → get_or (row_of (row ∷ rows) v) k 0 < length (row_of (ws ∷ weights) v)
    made row rows p q zero k less inside = p.values k inside
    made row rows p q (suc v) k less inside = q.values v k (omega (arith, less)) inside

    to : (z : Rows) → Fronted (IsRow (length ws) h) (AreRows weights heights) z → AreRows (ws ∷ weights) (h ∷ heights) z
    to z f = subst (AreRows (ws ∷ weights) (h ∷ heights)) (sym f.is) (record {
      lengths = ap₂ (λ (n : ℕ) (ns : List ℕ). n ∷ ns) f.has_front.size f.has_rest.lengths;
      values = made f.front f.rest f.has_front f.has_rest;
    })

    fro : (z : Rows) → AreRows (ws ∷ weights) (h ∷ heights) z
        → Fronted (IsRow (length ws) h) (AreRows weights heights) z
    fro [] p = absurd (let s : 0 ≡ length (h ∷ heights) = ap (λ (ns : List ℕ). length ns) p.lengths in omega (arith, s))
    fro (row ∷ rows) p =
        let both : ◌≡◌ {A = List ℕ} (length row ∷ map length rows) (h ∷ heights) = p.lengths in
        record {
          front = row;
          rest = rows;
          is = refl;
          has_front = record {
            size = (let s : length row ≡ h = cc in s);
            values = λ k less. p.values 0 k (omega arith) less;
          };
          has_rest = record {
            lengths = (let s : map length rows ≡ heights = cc in s);
            values = λ v k less inside. p.values (suc v) k (omega (arith, less)) inside;
          };
        }
