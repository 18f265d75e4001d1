-- Ends that come of the numbers of samples, one by one, are those of the samples.
use Rattle.std.proofs.Common.{◌≡◌, ℕ, zero, suc, ◌+◌, List, [], ◌∷◌, ◌++◌, map, slice_get, Some, Vec, Result, Ok, Err, IfOk, MatchResult, Contains, sym, subst, ◌∙◌, arith}
use Rattle.std.specs.List.{AllZip, range_with_len}
use Rattle.std.proofs.lemmas.Option.{none-some, same_Some}
use Rattle.std.proofs.lemmas.List.FromFn.{length-range_with_len}
use Rattle.std.proofs.lemmas.Slice.Zip.{AllZip-long}
use Rattle.pop_model.specs.Instances.{Instance}
use Rattle.confluence_core.specs.declared.end.End.{End}
use Rattle.pop_batch.specs.Batches.{IsSampleEnd, AreEnds}

-- results that are all there are what they hold
held : {X Y : Type 0} (E : Type 0) (P : X → Y → Type 0) (xs : List X) (ys : List Y)
    → AllZip (λ x (r : Result Y E). IfOk r (P x)) xs (map Ok ys) → AllZip P xs ys
held E P [] [] all = tt
held E P [] (y ∷ ys) all = absurd all
held E P (x ∷ xs) [] all = absurd all
held E P (x ∷ xs) (y ∷ ys) all = (all.0, held E P xs ys all.1)

-- what came of the numbers from a on stands at their places
zipped : {B : Type 0} (P : ℕ → B → Type 0) (a n : ℕ) (ys : List B) → AllZip P (range_with_len a n) ys → (j k : ℕ) (y : B)
    → a + j ≡ k → slice_get ys j ≡ Some y → P k y
zipped P a zero [] all j k y at is = absurd (none-some y is)
zipped P a zero (x ∷ ys) all j k y at is = absurd all
zipped P a (suc n) [] all j k y at is = absurd all
zipped P a (suc n) (x ∷ ys) all zero k y at is =
    let here : a ≡ k = omega (arith, at) in
    let same : x ≡ y = same_Some x y is in
    subst (P k) same (subst (λ m. P m x) here all.0)
zipped P a (suc n) (x ∷ ys) all (suc j) k y at is = zipped P (a + 1) n ys all.1 j k y (omega (arith, at)) is

-- one more behind what came of the numbers from a on
push_zip : {B : Type 0} (P : ℕ → B → Type 0) (a n : ℕ) (ys : List B) (y : B) → AllZip P (range_with_len a n) ys
    → P (a + n) y → AllZip P (range_with_len a (suc n)) (ys ++ y ∷ [])
push_zip P a zero [] y all next = (subst (λ k. P k y) (omega arith) next, tt)
push_zip P a zero (x ∷ ys) y all next = absurd all
push_zip P a (suc n) [] y all next = absurd all
push_zip P a (suc n) (x ∷ ys) y all next =
    (all.0, push_zip P (a + 1) n ys y all.1 (subst (λ k. P k y) (omega arith) next))

-- the end of the next sample behind those of so many
pub one_more : (i : Instance) (j n : ℕ) (ends : List End) (end : End) → n ≡ suc j
    → AllZip (IsSampleEnd i) (range_with_len 0 j) ends → IsSampleEnd i j end
    → AllZip (IsSampleEnd i) (range_with_len 0 n) (ends ++ end ∷ [])
one_more i j n ends end is all next =
    subst (λ m. AllZip (IsSampleEnd i) (range_with_len 0 m) (ends ++ end ∷ [])) (sym is)
    (push_zip (IsSampleEnd i) 0 j ends end all (subst (λ k. IsSampleEnd i k end) (omega arith) next))

-- the ends of so many samples from 0 on
pub ends_of : (i : Instance) (count : ℕ) (ends : List End) → AllZip (IsSampleEnd i) (range_with_len 0 count) ends
    → AreEnds i count ends
ends_of i count ends all = record {
  count_is = AllZip-long (IsSampleEnd i) (range_with_len 0 count) ends all ∙ length-range_with_len 0 count;
  each = λ j end is. zipped (IsSampleEnd i) 0 count ends all j j end (omega arith) is;
}

-- a batch whose results are those of the numbers from 0 on, of which none is missing
pub batch_ends : {A E : Type 0} (i : Instance) (count : ℕ) (numbers : List ℕ) (results : List (Result End E))
    (batch : Result (Vec End A) E) → numbers ≡ range_with_len 0 count
    → AllZip (λ j r. IfOk r (IsSampleEnd i j)) numbers results
    → MatchResult batch (λ v. (ends : List End) × (results ≡ map Ok ends) × (v.items ≡ ends))
    (λ e. Contains results (Err e)) → IfOk batch (λ v. AreEnds i count v.items)
batch_ends {A} {E} i count numbers results (Ok v) are all (ends, whole, same) =
    let Each : ℕ → Result End E → Type 0 = λ j r. IfOk r (IsSampleEnd i j) in
    let zip : AllZip Each (range_with_len 0 count) (map Ok ends) =
    subst (λ ns. AllZip Each ns (map Ok ends)) are (subst (AllZip Each numbers) whole all) in
    subst (AreEnds i count) (sym same) (ends_of i count ends (held E (IsSampleEnd i) (range_with_len 0 count) ends zip))
batch_ends i count numbers results (Err e) are all found = tt
