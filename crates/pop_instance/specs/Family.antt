-- The family that a value represents in the definitions.
use Rattle.std.specs.Prelude.{ℕ}
use Rattle.pop_model.specs.Popping.{Cube}
use Rattle.pop_model.specs.Families.{Family as ModelFamily, IsEvent}
use Rattle.pop_model.specs.Families.Family.{Listed as ListedEvents, Cycles as CyclesOfHeads}
use Rattle.pop_instance.specs.declared.family.Family.{Family}
use Rattle.pop_instance.specs.declared.family.Family.TheVariants.{Listed, Cycles}

-- the family in the definitions
abbrev pub family_of : Family → ModelFamily
family_of (Listed events) = ListedEvents events
family_of (Cycles arrows) = CyclesOfHeads arrows

-- some event of the family has this cube
abbrev pub HasEvent : ModelFamily → Cube → Type 0
HasEvent family e = (unit : ℕ) × IsEvent family (record { unit = unit; cube = e })
