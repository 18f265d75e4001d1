-- Each event that occurs at an end can be printed: a listed one has a place, and the variables of a cycle have arrows.
use Rattle.std.proofs.Common.{ℕ, ◌≡◌, ◌<◌, ◌^◌, List, length, get_or, slice_index, All, ap, sym, subst, ◌∙◌, arith}
use Rattle.std.proofs.lemmas.List.Elements.{Contains-get_or}
use Rattle.std.proofs.lemmas.Option.{slice_get_within}
use Rattle.pop_model.specs.Stacks.{variables_of, domain_of}
use Rattle.pop_model.specs.Names.{vertex_of}
use Rattle.pop_model.proofs.ValuesLemmas.{length-values_at}
use Rattle.graph_read.specs.Graphs.{GraphOf}
use Rattle.graph_read.specs.Incidence.{edges_at}
use Rattle.pop_model.specs.Families.{Event, Family, IsEvent, units_of}
use Rattle.pop_model.specs.Families.Family.{Listed, Cycles}
use Rattle.pop_model.specs.Instances.{Instance, instance_for}
use Rattle.pop_model.specs.Runs.{IsStuckList}
use Rattle.confluence_core.proofs.CycleVariables.{cycle_names_below}
use Rattle.confluence_core.specs.declared.end.End.{End}
use Rattle.pop_batch.specs.Batches.{IsSampleEnd}
use Rattle.pop_print.specs.Ends.{IsOfTree, IsAtEnd, IsPrintable}
use Rattle.pop_print.specs.Stuck.{HasNames}

-- an event of a family of so few units can be printed
event_named : (family : Family) (e : Event) → units_of family < 2 ^ 31 → IsEvent family e → HasNames family e
event_named (Listed rows) e few is = slice_get_within rows e.unit (is.0, e.cube) is.1
event_named (Cycles heads) e few is = λ k d within.
    let below = cycle_names_below heads e.cube is.0 k d within in omega arith

-- the events that occur at an end
pub stuck_named : (i : Instance) (c : List ℕ) (stuck : List Event) → units_of i.family < 2 ^ 31
    → IsStuckList i c stuck → All (HasNames i.family) stuck
stuck_named i c stuck few list k d below =
    let e = get_or stuck k d in
    event_named i.family e few ((list.exact e).0 (Contains-get_or stuck k d below)).0

-- there are as many values as variables
pub values_count : (i : Instance) (c : List ℕ) (stuck : List Event) (values : List ℕ) → IsAtEnd i c stuck values
    → length values ≡ variables_of i.stacks
values_count i c stuck values end = ap length end.values.are ∙ length-values_at i.stacks c ∙ end.count

-- an end can be printed
pub printable : (i : Instance) (c : List ℕ) (stuck : List Event) (values : List ℕ) → units_of i.family < 2 ^ 31
    → IsAtEnd i c stuck values → IsPrintable i c stuck values
printable i c stuck values few end = record {
  count = end.count;
  values = values_count i c stuck values end;
  within = λ v below. end.values.within v below;
  named = stuck_named i c stuck few end.stuck_list;
}

-- and so can that of a sample, whose stacks have the same variables and weights
pub sample_printable : (i : Instance) (j : ℕ) (end : End) → units_of i.family < 2 ^ 31 → IsSampleEnd i j end
    → IsPrintable i end.cursors end.stuck end.values
sample_printable i j end few sample = record {
  count = sym sample.over.count;
  values = ap length sample.over.values.are ∙ length-values_at (instance_for j i).stacks end.cursors
      ∙ sym sample.over.count;
  within = λ v below. sample.over.values.within v below;
  named = stuck_named (instance_for j i) end.cursors end.stuck few sample.first.stuck_list;
}

-- at an end of a tree the value of a variable is a slot of its vertex
pub slots_known : (i : Instance) (g : GraphOf) (root : ℕ) (values : List ℕ) → IsOfTree g root i
    → length values ≡ variables_of i.stacks
    → ((v : ℕ) → v < variables_of i.stacks → slice_index values v < domain_of i.stacks v)
    → (v : ℕ) → v < length values → slice_index values v < length (edges_at g (vertex_of root v))
slots_known i g root values tree count within v below =
    let known : v < variables_of i.stacks = omega (arith, below, count) in
    subst (λ n. slice_index values v < n) (tree.slots v known) (within v known)
