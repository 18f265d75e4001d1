-- Whether two cubes share a variable, as a test.
use Rattle.std.proofs.Common.{◌≡◌, ℕ, Bool, true}
use Rattle.std.specs.List.{list_any}
use Rattle.std.proofs.lemmas.List.Folds.{Any-from_list_any, list_any-from_Any}
use Rattle.pop_model.specs.Popping.{Cube, names}
use Rattle.pop_model.specs.Extremal.{Share}
use Rattle.pop_model.proofs.Diamond.{named, names_it}

-- some variable of the one cube is one of the other
abbrev pub share : Cube → Cube → Bool
share e f = list_any (λ p. names f p.0) e

-- where the test says so, they share a variable
pub share_from : (e f : Cube) → share e f ≡ true → Share e f
share_from e f test =
    let some = Any-from_list_any (λ (p : ℕ × ℕ). names f p.0) e test in
    let there = named f some.1.0 some.4 in
    (some.1.0, some.1.1, there.0, (some.0, some.2, some.3), there.1)

-- where they share a variable, the test says so
pub share_to : (e f : Cube) → Share e f → share e f ≡ true
share_to e f (v, x, y, here, there) =
    list_any-from_Any (λ (p : ℕ × ℕ). names f p.0) e (here.0, (v, x), here.1, here.2, names_it f (v, y) there)

-- where one cube shares a variable with another, so does the other with it
pub Share-sym : (e f : Cube) → Share e f → Share f e
Share-sym e f (v, x, y, here, there) = (v, y, x, there, here)
