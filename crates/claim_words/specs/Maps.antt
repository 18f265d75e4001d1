-- Weights of lists, and maps that are lists of pairs.
use Rattle.std.specs.Prelude.{◌≡◌, ◌⊎◌, ℕ, zero, suc, ◌+◌, List, [], ◌∷◌, ◌==◌, cond, nat_lt}

-- the sum of the weights of the items
abbrev pub total : {A : Type 0} → (A → ℕ) → List A → ℕ
total f [] = 0
total f (x ∷ xs) = f x + total f xs

-- each item has this property
abbrev pub Each : {A : Type 0} → (A → Type 0) → List A → Type 0
Each P [] = Unit {0}
Each P (x ∷ xs) = P x × Each P xs

-- it is an item of the list
abbrev pub In : {A : Type 0} → A → List A → Type 0
In a [] = ⊥
In a (x ∷ xs) = (x ≡ a) ⊎ In a xs

-- the sum of the weights of the numbers below n
abbrev pub below : (ℕ → ℕ) → ℕ → ℕ
below f zero = 0
below f (suc n) = below f n + f n

-- a map from numbers to numbers, in the order in which it was made
abbrev pub Pairs : Type 0
Pairs = List (ℕ × ℕ)

-- 1 for a pair of v
abbrev pub is_at : ℕ → ℕ × ℕ → ℕ
is_at v p = cond (p.0 == v) 1 0

-- how often v occurs in a map
abbrev pub times : ℕ → Pairs → ℕ
times v l = total (is_at v) l

-- the map without v
abbrev pub without : ℕ → Pairs → Pairs
without v [] = []
without v (p ∷ ps) = cond (p.0 == v) (without v ps) (p ∷ without v ps)

-- the number for v
abbrev pub look : ℕ → Pairs → ℕ
look v [] = 0
look v (p ∷ ps) = cond (p.0 == v) p.1 (look v ps)

-- the map with the number for v increased by 1
abbrev pub raise : ℕ → Pairs → Pairs
raise v [] = []
raise v (p ∷ ps) = cond (p.0 == v) (p.0, p.1 + 1) p ∷ raise v ps

-- the map with the number for each variable of these pairs increased by 1
abbrev pub raise_all : Pairs → Pairs → Pairs
raise_all [] held = held
raise_all (p ∷ ps) held = raise_all ps (raise p.0 held)

-- how often v occurs in a list
abbrev pub times_in : ℕ → List ℕ → ℕ
times_in v l = total (λ u. cond (u == v) 1 0) l

-- the list without v
abbrev pub taken_out : ℕ → List ℕ → List ℕ
taken_out v [] = []
taken_out v (u ∷ us) = cond (u == v) (taken_out v us) (u ∷ taken_out v us)

-- 1 for a number that is n or more
abbrev pub is_from : ℕ → ℕ → ℕ
is_from n u = cond (nat_lt u n) 0 1

-- how many items are n or more
abbrev pub many_from : ℕ → List ℕ → ℕ
many_from n l = total (is_from n) l
