-- A list in which each member is changed, one after another.
--
-- A prefix of the list is changed, and after it the members are as they were. A turn changes the next member. What is
-- seen of a member may be less than the member itself, such as the kind and the state of a watcher.
use Rattle.std.proofs.Common.{◌≡◌, ℕ, ◌+◌, ◌<◌, ◌≤◌, List, ◌++◌, length, take, drop, map, get_or, set, refl, sym, ap, ap₂, ◌∙◌, arith}
use Rattle.std.proofs.lemmas.List.{get_or-map, length-map, map-set, take_all, drop_all, append-nil}
use Rattle.std.proofs.lemmas.List.Edits.{map_over_more}

-- the first i members changed, and the others as they were
abbrev pub changed_front : {X : Type 0} → (X → X) → ℕ → List X → List X
changed_front h i xs = map h (take i xs) ++ drop i xs

-- before the first member none is changed
pub changed_none : {X : Type 0} (h : X → X) (xs : List X) → xs ≡ changed_front h 0 xs
changed_none h xs = refl

-- the member at i is changed, where those before it are
pub changed_more : {A X : Type 0} (f : A → X) (h : X → X) (ws first : List A) (i : ℕ) (b new : A)
    → i < length ws → length ws ≡ length first → f new ≡ h (f (get_or ws i b))
    → map f ws ≡ changed_front h i (map f first) → map f (set ws i new) ≡ changed_front h (i + 1) (map f first)
changed_more f h ws first i b new within size changed old =
    let x = f (get_or ws i b) in
    let below : i < length (map f first) = omega (arith, length-map first f) in
    map-set f ws i new ∙ ap (set (map f ws) i) changed
    ∙ map_over_more h (map f first) (map f ws) i x below old (sym (get_or-map f ws i b x within))

-- behind the last all are
pub changed_all : {A X : Type 0} (f : A → X) (h : X → X) (ws first : List A) (i : ℕ) → length first ≤ i
    → map f ws ≡ changed_front h i (map f first) → map f ws ≡ map h (map f first)
changed_all f h ws first i past old =
    let xs = map f first in
    let all : length xs ≤ i = omega (arith, length-map first f) in
    old ∙ ap₂ (λ l r. map h l ++ r) (take_all i xs all) (drop_all i xs all) ∙ append-nil (map h xs)
