-- Tokens joined one after another, with a sign before each of them except the first.
use Rattle.std.proofs.Common.{◌≡◌, ℕ, zero, suc, ◌+◌, ◌<◌, ◌≤◌, cond, List, [], ◌∷◌, ◌++◌, length, map, take, get_or, refl, sym, ap, ◌∙◌, arith, append_assoc, ltb}
use Rattle.std.specs.List.{join_with_byte}
use Rattle.std.proofs.lemmas.Bool.{lt-ltb}
use Rattle.std.proofs.lemmas.List.{take_more, map_push}

-- a word more
joined_push : (sign : ℕ) (u : List ℕ) (ws : List (List ℕ)) (w : List ℕ)
    → join_with_byte sign ((u ∷ ws) ++ w ∷ []) ≡ join_with_byte sign (u ∷ ws) ++ sign ∷ w
joined_push sign u [] w = refl
joined_push sign u (v ∷ ws) w =
    ap (λ l. u ++ sign ∷ l) (joined_push sign v ws w)
    ∙ sym (append_assoc u (sign ∷ join_with_byte sign (v ∷ ws)) (sign ∷ w))

joined_next : (sign : ℕ) (ws : List (List ℕ)) (w : List ℕ)
    → join_with_byte sign (ws ++ w ∷ []) ≡ join_with_byte sign ws ++ (cond (ltb 0 (length ws)) (sign ∷ []) [] ++ w)
joined_next sign [] w = refl
joined_next sign (u ∷ ws) w =
    joined_push sign u ws w
    ∙ ap (λ b. join_with_byte sign (u ∷ ws) ++ (cond b (sign ∷ []) [] ++ w))
    (sym (lt-ltb 0 (length (u ∷ ws)) (omega arith)))

-- the words of a list up to a place, and the next
pub joined_more : {X : Type 0} (sign : ℕ) (f : X → List ℕ) (xs : List X) (k : ℕ) (d : X) (old out mid new : List ℕ)
    → k < length xs → out ≡ old ++ join_with_byte sign (map f (take k xs))
    → mid ≡ out ++ cond (ltb 0 k) (sign ∷ []) [] → new ≡ mid ++ f (get_or xs k d)
    → new ≡ old ++ join_with_byte sign (map f (take (k + 1) xs))
joined_more sign f xs k d old out mid new within so_far signed pushed =
    let ws = map f (take k xs) in
    let w = f (get_or xs k d) in
    let s = cond (ltb 0 k) (sign ∷ []) [] in
    let size : length ws ≡ k = count f xs k (omega (arith, within)) in
    let next : map f (take (k + 1) xs) ≡ ws ++ w ∷ [] =
    ap (map f) (take_more xs k d within) ∙ map_push f (take k xs) (get_or xs k d) in
    pushed ∙ ap (λ l. l ++ w) (signed ∙ ap (λ l. l ++ s) so_far)
    ∙ append_assoc (old ++ join_with_byte sign ws) s w ∙ append_assoc old (join_with_byte sign ws) (s ++ w)
    ∙ ap (λ n. old ++ (join_with_byte sign ws ++ (cond (ltb 0 n) (sign ∷ []) [] ++ w))) (sym size)
    ∙ ap (λ l. old ++ l) (sym (joined_next sign ws w))
    ∙ ap (λ l. old ++ join_with_byte sign l) (sym next)
  where
    count : {X : Type 0} (f : X → List ℕ) (xs : List X) (k : ℕ) → k ≤ length xs → length (map f (take k xs)) ≡ k
    count f [] zero within = refl
    count f [] (suc k) within = absurd (omega (arith, within))
    count f (x ∷ xs) zero within = refl
    count f (x ∷ xs) (suc k) within = ap suc (count f xs k (omega (arith, within)))
