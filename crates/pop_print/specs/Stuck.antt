-- Events that can be printed.
use Rattle.std.specs.Prelude.{◌<◌, ◌^◌, length}
use Rattle.pop_model.specs.Popping.{NamesBelow}
use Rattle.pop_model.specs.Families.{Event, Family}
use Rattle.pop_model.specs.Families.Family.{Listed, Cycles}

-- a listed event has a place, and the variables of a cycle have names
abbrev pub HasNames : Family → Event → Type 0
HasNames (Listed rows) e = e.unit < length rows
HasNames (Cycles heads) e = NamesBelow e.cube (2 ^ 31)
