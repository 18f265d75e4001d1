-- The step of the watcher of layers: the greatest number so far and the places so far, variable by variable; and
-- where a variable's layer is put, each place has what it had or the layer.
use Rattle.std.proofs.Common.{inl, inr, ◌≡◌, ℕ, zero, suc, ◌+◌, ◌-◌, ◌<◌, ◌≤◌, Bool, true, false, cond, eqb, ◌||◌, max, fold, List, [], ◌∷◌, ◌++◌, length, map, take, take_all, get_or, set, replicate, refl, sym, ap, ap₂, subst, ◌∙◌, arith, All, eq-eqb, ne_eqb}
use Rattle.std.specs.List.{range_with_len}
use Rattle.std.proofs.lemmas.Bool.{cases_eq, cases_lt, or_right}
use Rattle.std.proofs.lemmas.List.{length-set, get_or-set_same, get_or-set_other, get_or_past, get_or_append_left, get_or-append_right, get_or-replicate, length-replicate, length-append}
use Rattle.std.proofs.lemmas.List.Sums.{fold_more}
use Rattle.std.proofs.lemmas.List.Folds.{list_any_more}
use Rattle.std.proofs.lemmas.List.FromFn.{fill_by_all}
use Rattle.pop_model.specs.Popping.{Cube, names}
use Rattle.pop_watch.specs.Watching.{layer_at, places_with, layer_put}

-- the greatest number at the variables so far
abbrev pub greatest_at : List ℕ → Cube → ℕ
greatest_at s e = fold (λ n p. max n (get_or s (p.0 + 1) 0)) 0 e

-- with the next variable
pub greatest_more : (s : List ℕ) (e : Cube) (i : ℕ) (v x n : ℕ) → i < length e → get_or e i (v, x) ≡ (v, x)
    → n ≡ greatest_at s (take i e) → max n (get_or s (v + 1) 0) ≡ greatest_at s (take (i + 1) e)
greatest_more s e i v x n within is so_far =
    ap (λ m. max m (get_or s (v + 1) 0)) so_far
    ∙ ap (λ (p : ℕ × ℕ). max (greatest_at s (take i e)) (get_or s (p.0 + 1) 0)) (sym is)
    ∙ sym (fold_more (λ (m : ℕ) (p : ℕ × ℕ). max m (get_or s (p.0 + 1) 0)) 0 e i (v, x) within)

-- and so many places
pub size_more : (s : List ℕ) (e : Cube) (i : ℕ) (v x n : ℕ) → i < length e → get_or e i (v, x) ≡ (v, x)
    → n ≡ places_with s (take i e) → max n (v + 2) ≡ places_with s (take (i + 1) e)
size_more s e i v x n within is so_far =
    ap (λ m. max m (v + 2)) so_far
    ∙ ap (λ (p : ℕ × ℕ). max (places_with s (take i e)) (p.0 + 2)) (sym is)
    ∙ sym (fold_more (λ (m : ℕ) (p : ℕ × ℕ). max m (p.0 + 2)) (length s) e i (v, x) within)

-- the layer is put at the variables so far
abbrev pub put_so_far : List ℕ → Cube → ℕ → ℕ → ℕ
put_so_far s e y zero = get_or s 0 0
put_so_far s e y (suc v) = cond (names e v) y (get_or s (suc v) 0)

-- these are the places then
pub record ArePut (s now : List ℕ) (e : Cube) (y : ℕ) : Type 0 where
  pub size : length now ≡ length s
  pub each : (k : ℕ) → k < length s → get_or now k 0 ≡ put_so_far s e y k

-- one variable more
pub put_more : (s now : List ℕ) (e : Cube) (y i v x : ℕ) → i < length e → get_or e i (v, x) ≡ (v, x)
    → v + 1 < length s → ArePut s now (take i e) y → ArePut s (set now (v + 1) y) (take (i + 1) e) y
put_more s now e y i v x within is room old =
    record { size = length-set now (v + 1) y ∙ old.size; each = each }
  where
    test : (w : ℕ) → names (take (i + 1) e) w ≡ (names (take i e) w || eqb v w)
    test w =
        list_any_more (λ (p : ℕ × ℕ). eqb p.0 w) e i (v, x) within
        ∙ ap (λ (p : ℕ × ℕ). names (take i e) w || eqb p.0 w) is

    each : (k : ℕ) → k < length s → get_or (set now (v + 1) y) k 0 ≡ put_so_far s (take (i + 1) e) y k
    each zero inside =
        get_or-set_other now (v + 1) 0 y 0 (λ h. absurd (omega (arith, h))) ∙ old.each zero inside
    each (suc w) inside = elim (cases_eq v w) [
      | inl same ↦
          let here : suc w ≡ v + 1 = omega (arith, same) in
          let size = old.size in
          ap (λ k. get_or (set now (v + 1) y) k 0) here
          ∙ get_or-set_same now (v + 1) y 0 (omega (arith, size, room))
          ∙ ap (λ b. cond b y (get_or s (suc w) 0))
          (sym (test w ∙ or_right (names (take i e) w) (eqb v w) (eq-eqb v w same)))
      | inr differ ↦
          get_or-set_other now (v + 1) (suc w) y 0 (λ h. differ (omega (arith, h))) ∙ old.each (suc w) inside
          ∙ ap (λ b. cond b y (get_or s (suc w) 0)) (sym (test w ∙ or_other (names (take i e) w) (eqb v w) (ne_eqb v w differ)))
    ]
      where
        or_other : (a b : Bool) → b ≡ false → (a || b) ≡ a
        or_other true b is = refl
        or_other false b is = is

-- place 0 gets the greater of what it has and the layer
pub put_all : (s now : List ℕ) (e : Cube) (y : ℕ) → 0 < length s → ArePut s now e y
    → set now 0 (max (get_or now 0 0) y) ≡ map (layer_put s e y) (range_with_len 0 (length s))
put_all s now e y some put =
    fill_by_all (layer_put s e y) (set now 0 (max (get_or now 0 0) y)) (length s) 0
    (length-set now 0 (max (get_or now 0 0) y) ∙ put.size) each
  where
    each : (k : ℕ) → k < length s → get_or (set now 0 (max (get_or now 0 0) y)) k 0 ≡ layer_put s e y k
    each zero inside =
        let size = put.size in
        get_or-set_same now 0 (max (get_or now 0 0) y) 0 (omega (arith, size, some))
        ∙ ap (λ n. max n y) (put.each zero inside)
    each (suc v) inside =
        get_or-set_other now 0 (suc v) (max (get_or now 0 0) y) 0 (λ h. absurd (omega (arith, h))) ∙ put.each (suc v) inside

-- zeros behind the places change no number that is read
longer : (s : List ℕ) (n k : ℕ) → ◌≡◌ {A = ℕ} (get_or (s ++ replicate n 0) k 0) (get_or s k 0)
longer s n k = elim (cases_lt k (length s)) [
  | inl within ↦ get_or_append_left s (replicate n 0) 0 k within
  | inr past ↦
      get_or-append_right s (replicate n 0) (length s) k 0 (own (length s)) past ∙ zeros n (k - length s) ∙ sym (get_or_past s k 0 past)
]
  where
    own : (m : ℕ) → m ≡ m
    own m = refl

    zeros : (n k : ℕ) → ◌≡◌ {A = ℕ} (get_or (replicate n 0) k 0) 0
    zeros n k = elim (cases_lt k n) [
      | inl within ↦ get_or-replicate n k 0 0 within
      | inr past ↦ let size = length-replicate {A = ℕ} n 0 in get_or_past (replicate n 0) k 0 (omega (arith, past, size))
    ]

-- nor what is put at a place
put_longer : (s : List ℕ) (n : ℕ) (e : Cube) (y k : ℕ) → layer_put (s ++ replicate n 0) e y k ≡ layer_put s e y k
put_longer s n e y zero = ap (λ m. max m y) (longer s n 0)
put_longer s n e y (suc v) = ap (λ m. cond (names e v) y m) (longer s n (suc v))

-- equal functions have equal images
map_same : {X : Type 0} (f g : ℕ → X) (xs : List ℕ) → ((k : ℕ) → f k ≡ g k) → map f xs ≡ map g xs
map_same f g [] same = refl
map_same {X} f g (k ∷ xs) same = ap₂ (λ (x : X) (l : List X). x ∷ l) (same k) (map_same f g xs same)

-- a front of the places with the layer put
pub put_in_longer : (s long : List ℕ) (n size : ℕ) (e : Cube) (y : ℕ) → long ≡ s ++ replicate n 0 → length long ≡ size
    → map (layer_put long e y) (range_with_len 0 (length long)) ≡ map (layer_put s e y) (range_with_len 0 size)
put_in_longer s long n size e y is sized =
    ap (λ m. map (layer_put long e y) (range_with_len 0 m)) sized
    ∙ ap (λ l. map (layer_put l e y) (range_with_len 0 size)) is
    ∙ map_same (layer_put (s ++ replicate n 0) e y) (layer_put s e y) (range_with_len 0 size) (put_longer s n e y)

-- the number of places doesn't fall
size_grows : (n : ℕ) (e : Cube) → n ≤ fold (λ m p. max m (p.0 + 2)) n e
size_grows n [] = omega arith
size_grows n (p ∷ e) = let rest = size_grows (max n (p.0 + 2)) e in omega (arith, rest)

-- so there are no fewer places than before
pub no_fewer : (s : List ℕ) (e : Cube) → length s ≤ places_with s e
no_fewer s e = size_grows (length s) e

-- each variable has its place
room_from : (n : ℕ) (e : Cube) → All (λ p. p.0 + 1 < fold (λ m q. max m (q.0 + 2)) n e) e
room_from n [] k d within = absurd (omega (arith, within))
room_from n (p ∷ e) zero d within = let rest = size_grows (max n (p.0 + 2)) e in omega (arith, rest)
room_from n (p ∷ e) (suc k) d within = room_from (max n (p.0 + 2)) e k d (omega (arith, within))

-- among the places that there are with the record
pub room_for_each : (s : List ℕ) (e : Cube) → All (λ p. p.0 + 1 < places_with s e) e
room_for_each s e = room_from (length s) e

-- the places once they are lengthened
pub long_is : (s long : List ℕ) (size count : ℕ) → count ≡ length s → length s ≤ size
    → long ≡ take size s ++ replicate (size - count) 0
    → (long ≡ s ++ replicate (size - count) 0) × (length long ≡ size)
long_is s long size count same most is =
    let whole : long ≡ s ++ replicate (size - count) 0 = is ∙ ap (λ l. l ++ replicate (size - count) 0) (take_all size s most) in
    let one = ap length whole in
    let two = length-append s (replicate (size - count) 0) in
    let three = length-replicate {A = ℕ} (size - count) 0 in
    (whole, omega (arith, one, two, three, same, most))

-- the whole step
pub step_is : (s long now : List ℕ) (size count layer : ℕ) (e : Cube) → count ≡ length s → size ≡ places_with s e
    → layer ≡ layer_at s e → long ≡ take size s ++ replicate (size - count) 0
    → now ≡ map (layer_put long e layer) (range_with_len 0 (length long))
    → now ≡ map (layer_put s e (layer_at s e)) (range_with_len 0 (places_with s e))
step_is s long now size count layer e same sized layer_is is put =
    let low = no_fewer s e in
    let parts = long_is s long size count same (omega (arith, low, sized)) is in
    put ∙ put_in_longer s long (size - count) size e layer parts.0 parts.1
    ∙ ap (λ y. map (layer_put s e y) (range_with_len 0 size)) layer_is
    ∙ ap (λ n. map (layer_put s e (layer_at s e)) (range_with_len 0 n)) sized

-- each variable has its place once they are lengthened
pub room_in_long : (s long : List ℕ) (size count : ℕ) (e : Cube) → count ≡ length s → size ≡ places_with s e
    → long ≡ take size s ++ replicate (size - count) 0 → All (λ p. p.0 + 1 < length long) e
room_in_long s long size count e same sized is =
    let low = no_fewer s e in
    let parts = long_is s long size count same (omega (arith, low, sized)) is in
    subst (λ n. All (λ (p : ℕ × ℕ). p.0 + 1 < n) e) (sym (parts.1 ∙ sized)) (room_for_each s e)

-- so there is a place
pub some_in_long : (long : List ℕ) (e : Cube) → 0 < length e → All (λ p. p.0 + 1 < length long) e → 0 < length long
some_in_long long e some room = let first = room 0 (0, 0) some in omega (arith, first)
