-- The conditions of a try at a unit.
use Rattle.std.specs.Prelude.{◌≡◌, ℕ, ◌<◌, true, List}
use Rattle.pop_model.specs.Popping.{Cube, NamesBelow}
use Rattle.pop_model.specs.Families.{IsEvent}
use Rattle.pop_model.specs.Families.Family.{Listed}
use Rattle.pop_model.specs.Instances.{Instance}
use Rattle.pop_model.specs.Stacks.{variables_of}
use Rattle.pop_instance.specs.Index.{IsIndex}
use Rattle.claim_words.specs.Openings.{is_listed, marks_in}

-- the family is listed, and this is the index of its events
abbrev pub Indexes : Instance → List (List ℕ) → Type 0
Indexes i index = (rows : List (ℕ × Cube)) × (i.family ≡ Listed rows) × IsIndex rows index

-- the cube is that of the unit's event in a listed family
pub record IsListedEvent (i : Instance) (u : ℕ) (cube : Cube) : Type 0 where
  pub listed : is_listed i.family ≡ true
  pub known : u < marks_in i.family
  pub event : IsEvent i.family (record { unit = u; cube = cube })
  pub below : NamesBelow cube (variables_of i.stacks)
