-- The printed names of variables and events.
use Rattle.std.specs.Prelude.{ℕ, ◌+◌, List, [], ◌∷◌, map}
use Rattle.pop_model.specs.Popping.{variables}
use Rattle.pop_model.specs.Families.{Event, Family}
use Rattle.pop_model.specs.Families.Family.{Listed, Cycles}
use Rattle.pop_model.specs.Names.{vertex_of}
use Rattle.pop_instance.specs.Events.{event_number}
use Rattle.pop_print.specs.declared.facts.Facts.{Facts}
use Rattle.pop_print.specs.declared.facts.Facts.TheVariants.{Formula, Orient, Tree, Made}

-- the name of a variable: its number or that of its edge, from 1, or its vertex
abbrev pub name_of : Facts → ℕ → ℕ
name_of (Formula n) v = v + 1
name_of (Orient g) v = v + 1
name_of (Tree g root) v = vertex_of root v
name_of (Made side) v = vertex_of 1 v

-- the printed numbers of an event: a listed one's own number, or the names of a cycle's variables
abbrev pub event_names : Facts → Family → Event → List ℕ
event_names facts (Listed rows) e = event_number rows e.unit ∷ []
event_names facts (Cycles heads) e = map (name_of facts) (variables e.cube)
