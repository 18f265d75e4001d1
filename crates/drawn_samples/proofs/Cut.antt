-- The first entries of rows: rows of lower heights, whose stacks the rows extend.
use Rattle.std.proofs.Common.{inl, inr, ◌≡◌, ℕ, zero, suc, ◌<◌, ◌≤◌, List, [], ◌∷◌, length, map, take, get_or, refl, sym, ap, ap₂, ◌∙◌, arith}
use Rattle.std.proofs.lemmas.Bool.{cases_lt}
use Rattle.std.proofs.lemmas.List.{get_or-map, get_or-take, get_or_past, length-map, length-take-le}
use Rattle.pop_model.specs.Stacks.{Extends, row_of}
use Rattle.pop_samples.specs.Frames.{AreRows, Frame, Rows, stacks_of}
use Rattle.drawn_samples.specs.Grown.{AreLower, cut}

-- the heights of what is cut
lengths-cut : (lower heights : List ℕ) (rows : Rows) → map length rows ≡ heights → length lower ≡ length heights
    → ((v : ℕ) → get_or lower v 0 ≤ get_or heights v 0) → map length (cut lower rows) ≡ lower
lengths-cut [] heights rows are size low = refl
lengths-cut (h ∷ lower) [] rows are size low = absurd (omega (arith, size))
lengths-cut (h ∷ lower) (k ∷ heights) [] are size low = absurd (cc)
lengths-cut (h ∷ lower) (k ∷ heights) (row ∷ rows) are size low =
    let first : length row ≡ k = cc in
    let later : map length rows ≡ heights = cc in
    let fits = low 0 in
    ap₂ (λ (n : ℕ) (ns : List ℕ). n ∷ ns) (length-take-le h row (omega (arith, fits, first)))
    (lengths-cut lower heights rows later (omega (arith, size)) (λ v. low (suc v)))

-- the row of a variable
row-cut : (lower : List ℕ) (rows : Rows) → length lower ≡ length rows → (v : ℕ) → v < length rows
    → row_of (cut lower rows) v ≡ take (get_or lower v 0) (row_of rows v)
row-cut lower [] size v below = absurd (omega (arith, below))
row-cut [] (row ∷ rows) size v below = absurd (omega (arith, size))
row-cut (h ∷ lower) (row ∷ rows) size zero below = refl
row-cut (h ∷ lower) (row ∷ rows) size (suc v) below =
    row-cut lower rows (omega (arith, size)) v (omega (arith, below))

-- the first entries of the first entries
pub cut_again : (lower higher : List ℕ) (rows : Rows) → length lower ≡ length higher → length higher ≡ length rows
    → ((v : ℕ) → get_or lower v 0 ≤ get_or higher v 0) → cut lower (cut higher rows) ≡ cut lower rows
cut_again [] higher rows size long low = refl
cut_again (h ∷ lower) [] rows size long low = absurd (omega (arith, size))
cut_again (h ∷ lower) (k ∷ higher) [] size long low = absurd (omega (arith, long))
cut_again (h ∷ lower) (k ∷ higher) (row ∷ rows) size long low =
    ap₂ (λ (r : List ℕ) (rs : Rows). r ∷ rs) (shorter h k row (low 0))
    (cut_again lower higher rows (omega (arith, size)) (omega (arith, long)) (λ v. low (suc v)))
  where
    shorter : (m n : ℕ) (xs : List ℕ) → m ≤ n → take m (take n xs) ≡ take m xs
    shorter zero n xs less = refl
    shorter (suc m) zero xs less = absurd (omega (arith, less))
    shorter (suc m) (suc n) [] less = refl
    shorter (suc m) (suc n) (x ∷ xs) less = ap (λ (ys : List ℕ). x ∷ ys) (shorter m n xs (omega (arith, less)))

module _ (weights : List (List ℕ)) (heights lower : List ℕ) (low : AreLower lower heights) (rows : Rows)
    (shape : AreRows weights heights rows) where
  -- as many as rows
  pub lower_count : length lower ≡ length rows
  lower_count =
      low.size ∙ sym (ap (λ (ns : List ℕ). length ns) shape.lengths) ∙ length-map rows (λ (row : List ℕ). length row)

  -- as many rows
  pub length-cut : length (cut lower rows) ≡ length rows
  length-cut =
      sym (length-map (cut lower rows) (λ (row : List ℕ). length row))
      ∙ ap (λ (ns : List ℕ). length ns) (lengths-cut lower heights rows shape.lengths low.size low.low) ∙ lower_count

  -- the length of a row
  pub height-cut : (v : ℕ) → v < length rows → length (row_of (cut lower rows) v) ≡ get_or lower v 0
  height-cut v below =
      let count = length-cut in
      sym (get_or-map (λ (row : List ℕ). length row) (cut lower rows) v [] 0 (omega (arith, below, count)))
      ∙ ap (λ (ns : List ℕ). get_or ns v 0) (lengths-cut lower heights rows shape.lengths low.size low.low)

  -- it is at most that of the whole row
  pub height_low : (v : ℕ) → v < length rows → get_or lower v 0 ≤ length (row_of rows v)
  height_low v below =
      let is : get_or heights v 0 ≡ length (row_of rows v) =
      ap (λ (ns : List ℕ). get_or ns v 0) (sym shape.lengths)
      ∙ get_or-map (λ (row : List ℕ). length row) rows v [] 0 below in
      let at = low.low v in
      omega (arith, is, at)

  -- the entries are the same
  pub entry-cut : (v k : ℕ) → v < length rows → k < get_or lower v 0
      → get_or (row_of (cut lower rows) v) k 0 ≡ get_or (row_of rows v) k 0
  entry-cut v k below inside =
      ap (λ (row : List ℕ). get_or row k 0) (row-cut lower rows lower_count v below)
      ∙ get_or-take (get_or lower v 0) (row_of rows v) k 0 inside

  -- so they are rows of the lower heights
  pub cut_shape : AreRows weights lower (cut lower rows)
  cut_shape = record {
    lengths = lengths-cut lower heights rows shape.lengths low.size low.low;
    values = λ v k below inside.
        let count = length-cut in
        let known : v < length rows = omega (arith, below, count) in
        let high = height-cut v known in
        let whole = height_low v known in
        let same = entry-cut v k known (omega (arith, inside, high)) in
        let value = shape.values v k known (omega (arith, inside, high, whole)) in
        omega (arith, same, value);
  }

  -- whose stacks the rows extend
  pub cut_extends : (f : Frame) → f.weights ≡ weights → Extends (stacks_of f (cut lower rows)) (stacks_of f rows)
  cut_extends f same = record {
    variables = refl;
    heights = λ v. elim (cases_lt v (length rows)) [
      | inl below ↦
          let high = height-cut v below in
          let whole = height_low v below in
          omega (arith, high, whole)
      | inr past ↦
          let count = length-cut in
          let none : length (row_of (cut lower rows) v) ≡ 0 =
          ap (λ (row : List ℕ). length row) (get_or_past (cut lower rows) v [] (omega (arith, past, count))) in
          omega (arith, none)
    ];
    entries = λ v k inside. elim (cases_lt v (length rows)) [
      | inl below ↦
          let high = height-cut v below in
          sym (entry-cut v k below (omega (arith, inside, high)))
      | inr past ↦
          let count = length-cut in
          let none : length (row_of (cut lower rows) v) ≡ 0 =
          ap (λ (row : List ℕ). length row) (get_or_past (cut lower rows) v [] (omega (arith, past, count))) in
          absurd (omega (arith, inside, none))
    ];
  }
