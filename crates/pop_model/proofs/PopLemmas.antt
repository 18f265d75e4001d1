-- What a pop does to each cursor.
use Rattle.std.proofs.Common.{inl, inr, ◌≡◌, ℕ, ◌+◌, ◌<◌, ◌≤◌, Bool, true, false, cond, List, length, get_or, map, refl, sym, ap, ◌∙◌, arith, Contains, ext_get_or}
use Rattle.std.specs.List.{enumerate_from}
use Rattle.std.proofs.lemmas.List.{get_or-map, length-map, get_or_past, same_lists}
use Rattle.std.proofs.lemmas.List.FromFn.{get_or-enumerate_from, length-enumerate_from}
use Rattle.std.proofs.lemmas.List.Elements.{Contains-get_or}
use Rattle.std.proofs.lemmas.Bool.{cases_lt}
use Rattle.pop_model.specs.Popping.{Cube, cursor, names, pop}
use Rattle.pop_model.specs.Logs.{entries_at}

-- a pop keeps how many cursors there are
pub length-pop : (c : List ℕ) (e : Cube) → length (pop c e) ≡ length c
length-pop c e = length-map (enumerate_from 0 c) _ ∙ length-enumerate_from 0 c

-- a pop moves the cursor of each variable of its event by one, and no other
pub cursor-pop : (c : List ℕ) (e : Cube) (v : ℕ) → v < length c
    → cursor (pop c e) v ≡ cond (names e v) (cursor c v + 1) (cursor c v)
cursor-pop c e v below =
    let f : ℕ × ℕ → ℕ = λ p. cond (names e p.0) (p.1 + 1) p.1 in
    let within : v < length (enumerate_from 0 c) = omega (arith, length-enumerate_from 0 c) in
    let at : get_or (enumerate_from 0 c) v (0, 0) ≡ (0 + v, get_or c v 0) = get_or-enumerate_from 0 c v (0, 0) below in
    let zero_v : 0 + v ≡ v = omega arith in
    get_or-map f (enumerate_from 0 c) v (0, 0) 0 within ∙ ap f at ∙ ap (λ w. f (w, get_or c v 0)) zero_v

-- a variable that the cube doesn't name keeps its cursor
pub cursor-pop_other : (c : List ℕ) (e : Cube) (v : ℕ) → names e v ≡ false → cursor (pop c e) v ≡ cursor c v
cursor-pop_other c e v other = elim (cases_lt v (length c)) [
  | inl below ↦ cursor-pop c e v below ∙ ap (λ b. cond b (cursor c v + 1) (cursor c v)) other
  | inr past ↦ let far : length (pop c e) ≤ v = omega (arith, length-pop c e) in get_or_past (pop c e) v 0 far
      ∙ sym (get_or_past c v 0 past)
]

-- two raises in either order
raised_twice : (a b : Bool) (n : ℕ)
    → cond b (cond a (n + 1) n + 1) (cond a (n + 1) n) ≡ cond a (cond b (n + 1) n + 1) (cond b (n + 1) n)
raised_twice true true n = refl
raised_twice true false n = refl
raised_twice false true n = refl
raised_twice false false n = refl

-- two pops move a cursor once for each of their events that names its variable
cursor-pop-pop : (c : List ℕ) (e f : Cube) (v : ℕ) → v < length c
    → cursor (pop (pop c e) f) v ≡ cond (names f v) (cond (names e v) (cursor c v + 1) (cursor c v) + 1) (cond (names e v) (cursor c v + 1) (cursor c v))
cursor-pop-pop c e f v below =
    let within : v < length (pop c e) = omega (arith, length-pop c e) in
    cursor-pop (pop c e) f v within ∙ ap (λ n. cond (names f v) (n + 1) n) (cursor-pop c e v below)

-- two pops leave the same in either order
pub pop_comm : (c : List ℕ) (e f : Cube) → pop (pop c e) f ≡ pop (pop c f) e
pop_comm c e f =
    let size : (x y : Cube) → length (pop (pop c x) y) ≡ length c = λ x y. length-pop (pop c x) y ∙ length-pop c x in
    ext_get_or 0 (pop (pop c e) f) (pop (pop c f) e) (size e f ∙ sym (size f e))
    (λ v h. let below : v < length c = omega (arith, size e f) in
    cursor-pop-pop c e f v below ∙ raised_twice (names e v) (names f v) (cursor c v)
    ∙ sym (cursor-pop-pop c f e v below))

-- the entries at two vectors that agree on the cube
pub entries_agree : (c d : List ℕ) (e : Cube) → ((p : ℕ × ℕ) → Contains e p → cursor c p.0 ≡ cursor d p.0)
    → entries_at c e ≡ entries_at d e
entries_agree c d e same =
    let f : ℕ × ℕ → ℕ = λ p. cursor c p.0 in
    let g : ℕ × ℕ → ℕ = λ p. cursor d p.0 in
    same_lists (map f e) (map g e) (length-map e f ∙ sym (length-map e g))
    (λ k z h. let below : k < length e = omega (arith, length-map e f) in
    get_or-map f e k (0, 0) z below ∙ same (get_or e k (0, 0)) (Contains-get_or e k (0, 0) below)
    ∙ sym (get_or-map g e k (0, 0) z below))
