-- The names of a cube's variables, one after another.
use Rattle.std.proofs.Common.{◌≡◌, ℕ, ◌<◌, List, length, map, get_or, slice_get, Some, decimal, ap, sym, ◌∙◌, arith}
use Rattle.std.proofs.lemmas.List.{get_or-map, length-map}
use Rattle.std.proofs.lemmas.Option.{get_or_from_slice_get}
use Rattle.pop_model.specs.Popping.{Cube, variables}
use Rattle.pop_print.specs.declared.facts.Facts.{Facts}
use Rattle.pop_print.specs.Names.{name_of}

-- the words of the variables' names
abbrev pub name_words : Facts → Cube → List (List ℕ)
name_words facts e = map decimal (map (name_of facts) (variables e))

-- there is one for each pair
pub length-name_words : (facts : Facts) (e : Cube) → length (name_words facts e) ≡ length e
length-name_words facts e =
    length-map (map (name_of facts) (variables e)) decimal ∙ length-map (variables e) (name_of facts)
    ∙ length-map e (λ p. p.0)

-- that of a pair
pub name_word_at : (facts : Facts) (e : Cube) (i v x name : ℕ) (d : List ℕ) → i < length e
    → slice_get e i ≡ Some (v, x) → name ≡ name_of facts v → get_or (name_words facts e) i d ≡ decimal name
name_word_at facts e i v x name d below at named =
    let pair : ℕ × ℕ = (v, x) in
    let first : ℕ × ℕ → ℕ = λ p. p.0 in
    let names = map (name_of facts) (variables e) in
    let count : length (variables e) ≡ length e = length-map e first in
    let size : length names ≡ length e = length-map (variables e) (name_of facts) ∙ count in
    let in_names : i < length names = omega (arith, size) in
    let in_variables : i < length (variables e) = omega (arith, count) in
    get_or-map decimal names i 0 d in_names
    ∙ ap decimal (get_or-map (name_of facts) (variables e) i 0 0 in_variables
    ∙ ap (name_of facts) (get_or-map first e i pair 0 below ∙ ap first (get_or_from_slice_get e i pair pair at))
    ∙ sym named)
