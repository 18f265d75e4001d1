-- Parts of a list: texts that were made from the numbers of its places, one by one, and are printed one after another,
-- are the printed form of its members there.
use Rattle.std.proofs.Common.{◌≡◌, ℕ, zero, suc, ◌+◌, ◌≤◌, ◌<◌, List, [], ◌∷◌, ◌++◌, map, length, take, get_or, slice_get, Some, Vec, Result, Ok, Err, IfOk, MatchResult, Contains, flat_map, sym, ap, subst, ◌∙◌, append_assoc, arith}
use Rattle.std.specs.List.{AllZip, range_with_len}
use Rattle.std.proofs.lemmas.List.{append-nil}
use Rattle.std.proofs.lemmas.Option.{slice_get-get_or, get_or_from_slice_get}
use Rattle.pop_text.proofs.PrintedMembers.{flat_map-take}

-- results that are all there are what they hold
held : {X Y : Type 0} (E : Type 0) (P : X → Y → Type 0) (xs : List X) (ys : List Y)
    → AllZip (λ x (r : Result Y E). IfOk r (P x)) xs (map Ok ys) → AllZip P xs ys
held E P [] [] all = tt
held E P [] (y ∷ ys) all = absurd all
held E P (x ∷ xs) [] all = absurd all
held E P (x ∷ xs) (y ∷ ys) all = (all.0, held E P xs ys all.1)

-- what was made of each number of a range, where nothing is missing
pub made_each : {Y A E : Type 0} (P : ℕ → Y → Type 0) (a n : ℕ) (numbers : List ℕ) (results : List (Result Y E))
    (made : Result (Vec Y A) E) → numbers ≡ range_with_len a n → AllZip (λ j r. IfOk r (P j)) numbers results
    → MatchResult made (λ v. (ys : List Y) × (results ≡ map Ok ys) × (v.items ≡ ys)) (λ e. Contains results (Err e))
    → IfOk made (λ v. AllZip P (range_with_len a n) v.items)
made_each {Y} {A} {E} P a n numbers results (Ok v) are all (ys, whole, same) =
    let Each : ℕ → Result Y E → Type 0 = λ j r. IfOk r (P j) in
    let zip : AllZip Each (range_with_len a n) (map Ok ys) =
    subst (λ ns. AllZip Each ns (map Ok ys)) are (subst (AllZip Each numbers) whole all) in
    subst (AllZip P (range_with_len a n)) (sym same) (held E P (range_with_len a n) ys zip)
made_each P a n numbers results (Err e) are all found = tt

-- a stretch behind what stands before it
pub behind : {X Y : Type 0} (f : X → List ℕ) (g : Y → List ℕ) (d : X) (xs : List X) (a n : ℕ) (ys : List Y)
    → a + n ≤ length xs → AllZip (λ j y. (x : X) → slice_get xs j ≡ Some x → g y ≡ f x) (range_with_len a n) ys
    → flat_map f (take a xs) ++ flat_map g ys ≡ flat_map f (take (a + n) xs)
behind f g d xs a zero [] within all =
    let same : a ≡ a + zero = omega arith in
    append-nil (flat_map f (take a xs)) ∙ ap (λ k. flat_map f (take k xs)) same
behind f g d xs a zero (y ∷ ys) within all = absurd all
behind f g d xs a (suc n) [] within all = absurd all
behind f g d xs a (suc n) (y ∷ ys) within all =
    let x = get_or xs a d in
    let below : a < length xs = omega (arith, within) in
    let at : slice_get xs a ≡ Some x = slice_get-get_or xs a d below in
    let here : g y ≡ f x = all.0 x at in
    let before = flat_map f (take a xs) in
    let rest = flat_map g ys in
    let next : flat_map f (take (a + 1) xs) ≡ before ++ f x =
    flat_map-take f xs a x below (get_or_from_slice_get xs a x x at) in
    let on : (a + 1) + n ≤ length xs = omega (arith, within) in
    let same : (a + 1) + n ≡ a + suc n = omega arith in
    ap (λ l. before ++ (l ++ rest)) here ∙ sym (append_assoc before (f x) rest) ∙ ap (λ l. l ++ rest) (sym next)
    ∙ behind f g d xs (a + 1) n ys on all.1 ∙ ap (λ k. flat_map f (take k xs)) same
