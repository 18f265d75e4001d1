-- Extremal families (Guo, Jerrum and Liu 2019).
use Rattle.std.specs.Prelude.{◌≢◌, ℕ, Contains}
use Rattle.pop_model.specs.Popping.{Cube}
use Rattle.pop_model.specs.Families.{Event, Family, IsEvent}

-- two cubes share a variable
abbrev pub Share : Cube → Cube → Type 0
Share e f = (v : ℕ) × (x : ℕ) × (y : ℕ) × Contains e (v, x) × Contains f (v, y)

-- two cubes demand different values of a variable that they share
abbrev pub Exclude : Cube → Cube → Type 0
Exclude e f = (v : ℕ) × (x : ℕ) × (y : ℕ) × Contains e (v, x) × Contains f (v, y) × (x ≢ y)

-- any two different events that share a variable demand different values of a shared variable
abbrev pub IsExtremal : Family → Type 0
IsExtremal family = (e f : Event) → IsEvent family e → IsEvent family f → e ≢ f
    → Share e.cube f.cube → Exclude e.cube f.cube
