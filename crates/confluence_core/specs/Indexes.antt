-- Families of events with the index of listed ones.
use Rattle.std.specs.Prelude.{⊤}
use Rattle.pop_model.specs.Stacks.{StackTable}
use Rattle.pop_model.specs.Families.{Family}
use Rattle.pop_model.specs.Families.Family.{Listed as ListedEvents, Cycles as CycleEvents}
use Rattle.pop_model.specs.Instances.{IsInstance}
use Rattle.pop_instance.specs.Index.{IsIndex}
use Rattle.confluence_core.specs.declared.indexed.IndexedFamily.{IndexedFamily}
use Rattle.confluence_core.specs.declared.indexed.IndexedFamily.TheVariants.{Listed, Cycles}

-- the family without its index
abbrev pub family_in : IndexedFamily → Family
family_in (Listed listed) = ListedEvents listed.events.now
family_in (Cycles arrows) = CycleEvents arrows.now

-- the index is that of the listed events
abbrev pub AreIndexed : IndexedFamily → Type 0
AreIndexed (Listed listed) = IsIndex listed.events.now listed.index.now
AreIndexed (Cycles arrows) = ⊤

-- an instance, with the index of its family
pub record IsIndexed (s : StackTable) (family : IndexedFamily) : Type 0 where
  pub instance : IsInstance (record { stacks = s; family = family_in family })
  pub indexed : AreIndexed family
