-- Records with their layers are sorted in memory, and so are their images.
use Rattle.std.proofs.Common.{inl, inr, ◌≡◌, ℕ, zero, suc, ◌+◌, Bool, false, cond, ◌≤◌, List, [], ◌∷◌, ◌++◌, map, zip, filter, length, get_or, take, take_all, Some, slice_get, refl, sym, ap, ap₂, subst, ◌∙◌, arith, IsPermutation, is_lt}
use Rattle.std.specs.List.Sorted.{IsSortedBy, IsStableBy, ties}
use Rattle.std.proofs.lemmas.Bool.{cases_Bool}
use Rattle.std.proofs.lemmas.List.{length-map, get_or-map, map_push}
use Rattle.std.proofs.lemmas.List.Sorted.{IsPermutation-map}
use Rattle.pop_model.specs.Logs.{LogRecord}
use Rattle.pop_log.specs.Layers.{Placed, LayersBehind, AreLayers}
use Rattle.pop_log.specs.Layered.{placed_cmp, AreSorted}
use Rattle.pop_log.specs.declared.placed_record.PlacedRecord.{PlacedRecord}
use Rattle.pop_log.specs.PlacedRecords.{placed_of}
use Rattle.pop_log.proofs.Fronts.{take_push}

-- there are as many layers as records
pub length-layers : (earlier : List Placed) (log : List LogRecord) (ys : List ℕ) → LayersBehind earlier log ys
    → length ys ≡ length log
length-layers earlier [] [] are = refl
length-layers earlier [] (y ∷ ys) are = absurd are
length-layers earlier (r ∷ log) [] are = absurd are
length-layers earlier (r ∷ log) (y ∷ ys) are = ap suc (length-layers (earlier ++ (r, y) ∷ []) log ys are.1)

-- what passes a test among images is the image of what passes it
filter-map : {X Y : Type 0} (f : X → Y) (p : Y → Bool) (xs : List X)
    → filter p (map f xs) ≡ map f (filter (λ x. p (f x)) xs)
filter-map f p [] = refl
filter-map {X} {Y} f p (x ∷ xs) = elim (cases_Bool (p (f x))) [
  | inl yes' ↦
      ap (λ b. cond b (f x ∷ filter p (map f xs)) (filter p (map f xs))) yes'
      ∙ ap (λ (l : List Y). f x ∷ l) (filter-map f p xs)
      ∙ ap (λ b. map f (cond b (x ∷ filter (λ y. p (f y)) xs) (filter (λ y. p (f y)) xs))) (sym yes')
  | inr no' ↦
      ap (λ b. cond b (f x ∷ filter p (map f xs)) (filter p (map f xs))) no' ∙ filter-map f p xs
      ∙ ap (λ b. map f (cond b (x ∷ filter (λ y. p (f y)) xs) (filter (λ y. p (f y)) xs))) (sym no')
]

-- the images of a list that is sorted by them are sorted
map_sorted : {X Y : Type 0} (f : X → Y) (lt : Y → Y → Bool) (xs : List X) → IsSortedBy (λ x y. lt (f x) (f y)) xs
    → IsSortedBy lt (map f xs)
map_sorted f lt [] sorted k d low high = absurd (omega arith)
map_sorted f lt (x ∷ xs) sorted k d low high =
    let size : length (map f (x ∷ xs)) ≡ length (x ∷ xs) = length-map (x ∷ xs) f in
    let first = get_or-map f (x ∷ xs) k x d (omega arith) in
    let next = get_or-map f (x ∷ xs) (k + 1) x d (omega arith) in
    subst (λ q. lt q (get_or (map f (x ∷ xs)) k d) ≡ false) (sym next)
    (subst (λ r. lt (f (get_or (x ∷ xs) (k + 1) x)) r ≡ false) (sym first) (sorted k x low (omega arith)))

-- the record in memory of a record with its layer
abbrev stored : Placed → PlacedRecord
stored p = record {
  popped = record { ref_ptr = (0, 0); now = p.0 };
  layer = p.1;
  unit = p.0.event.unit;
  unit_is = refl;
}

-- so a stable order stays one
map_stable : (items sorted : List PlacedRecord)
    → IsStableBy (λ x y. is_lt (placed_cmp (placed_of x) (placed_of y))) items sorted
    → IsStableBy (λ p q. is_lt (placed_cmp p q)) (map placed_of items) (map placed_of sorted)
map_stable items sorted stable z =
    let test : Placed → Bool = ties (λ p q. is_lt (placed_cmp p q)) z in
    filter-map placed_of test sorted ∙ ap (map placed_of) (stable (stored z)) ∙ sym (filter-map placed_of test items)

-- what a sort leaves
pub are_sorted : (log : List LogRecord) (ys : List ℕ) (items sorted : List PlacedRecord) → AreLayers log ys
    → map placed_of items ≡ zip log ys → IsPermutation items sorted
    → IsSortedBy (λ x y. is_lt (placed_cmp (placed_of x) (placed_of y))) sorted
    → IsStableBy (λ x y. is_lt (placed_cmp (placed_of x) (placed_of y))) items sorted
    → AreSorted log (map placed_of sorted)
are_sorted log ys items sorted are same moved up stable =
    record {
      layers = ys;
      are_layers = are;
      same_records = subst (λ l. IsPermutation l (map placed_of sorted)) same (IsPermutation-map placed_of items sorted moved);
      sorted = map_sorted placed_of (λ p q. is_lt (placed_cmp p q)) sorted up;
      in_order = subst (λ l. IsStableBy (λ p q. is_lt (placed_cmp p q)) l (map placed_of sorted)) same
          (map_stable items sorted stable);
    }

-- the records alone
pub records_alone : (items : List PlacedRecord)
    → map (λ p. p.popped.now) items ≡ map (λ q. q.0) (map placed_of items)
records_alone [] = refl
records_alone (p ∷ items) = ap (λ (l : List LogRecord). p.popped.now ∷ l) (records_alone items)

-- a record with its layer stands at its place
pub zip_at : (log : List LogRecord) (ys : List ℕ) (i : ℕ) (r : LogRecord) (y : ℕ) → slice_get log i ≡ Some r
    → slice_get ys i ≡ Some y → slice_get (zip log ys) i ≡ Some (r, y)
zip_at [] ys i r y at at' = absurd (cc)
zip_at (q ∷ log) [] i r y at at' = absurd (cc)
zip_at (q ∷ log) (z ∷ ys) zero r y at at' =
    let one : q ≡ r = cc in
    let two : z ≡ y = cc in
    ap (λ (p : Placed). Some p) (ap₂ (λ (a : LogRecord) (n : ℕ). (a, n)) one two)
zip_at (q ∷ log) (z ∷ ys) (suc i) r y at at' = zip_at log ys i r y at at'

-- one record more
pub with_more : (log : List LogRecord) (ys : List ℕ) (i : ℕ) (items : List PlacedRecord) (p : PlacedRecord)
    → slice_get log i ≡ Some p.popped.now → slice_get ys i ≡ Some p.layer → map placed_of items ≡ take i (zip log ys)
    → map placed_of (items ++ p ∷ []) ≡ take (i + 1) (zip log ys)
with_more log ys i items p at at' so_far =
    map_push placed_of items p ∙ ap (λ (l : List Placed). l ++ placed_of p ∷ []) so_far
    ∙ sym (take_push (zip log ys) i (placed_of p) (zip_at log ys i p.popped.now p.layer at at'))

-- a log with its layers has as many members
pub length-zip : (log : List LogRecord) (ys : List ℕ) → length ys ≡ length log → length (zip log ys) ≡ length log
length-zip [] ys same = refl
length-zip (r ∷ log) [] same = absurd (omega (arith, same))
length-zip (r ∷ log) (y ∷ ys) same = ap suc (length-zip log ys (omega (arith, same)))

-- all of them
pub with_all : (log : List LogRecord) (ys : List ℕ) (i : ℕ) (items : List PlacedRecord) → length ys ≡ length log
    → length log ≤ i → map placed_of items ≡ take i (zip log ys) → map placed_of items ≡ zip log ys
with_all log ys i items same far so_far = so_far ∙ take_all i (zip log ys) (omega (arith, far, length-zip log ys same))
