-- Instances for walks.
use Rattle.std.specs.Prelude.{⊤}
use Rattle.pop_model.specs.Families.{Family}
use Rattle.pop_model.specs.Families.Family.{Listed, Cycles}

-- the events are the cycles of arrows
abbrev pub AreCycles : Family → Type 0
AreCycles (Listed rows) = ⊥
AreCycles (Cycles heads) = ⊤
