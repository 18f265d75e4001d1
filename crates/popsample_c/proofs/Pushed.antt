-- The elements of a list onto which three were pushed.
use Rattle.std.proofs.Common.{◌≡◌, List, [], ◌∷◌, ◌++◌, map, ap, ◌∙◌}

-- each reads as the one of which that is known
pub three_read : {B W : Type 0} (read : B → W) {none one two three : List B} {a b c : B} {x y z : W} → none ≡ []
    → one ≡ none ++ a ∷ [] → two ≡ one ++ b ∷ [] → three ≡ two ++ c ∷ []
    → read a ≡ x → read b ≡ y → read c ≡ z → map read three ≡ x ∷ y ∷ z ∷ []
three_read read {a = a} {b} {c} {x} {y} {z} at0 at1 at2 at3 first second third =
    let filled = at3 ∙ ap (λ l. l ++ c ∷ []) (at2 ∙ ap (λ l. l ++ b ∷ []) (at1 ∙ ap (λ l. l ++ a ∷ []) at0)) in
    ap (map read) filled ∙ ap (λ w. w ∷ read b ∷ read c ∷ []) first ∙ ap (λ w. x ∷ w ∷ read c ∷ []) second
    ∙ ap (λ w. x ∷ y ∷ w ∷ []) third
