-- The error of a formula, a graph or a grid, by the part that has it.
use Rattle.std.proofs.Common.{inl, inr, ◌≡◌, ℕ, ◌≤◌, Bool, true, false, List, length, Option, refl, subst}
use Rattle.pop_model.specs.Stacks.{Origin}
use Rattle.pop_model.specs.Popping.{Cube}
use Rattle.pop_stacks.specs.Faults.{IsSound}
use Rattle.dimacs_read.specs.Cnf.{Cnf}
use Rattle.dimacs_read.specs.Falsifying.{AreEventsOf}
use Rattle.graph_read.specs.Graphs.{GraphOf}
use Rattle.graph_read.specs.Paths.{IsConnected}
use Rattle.sink_popping.specs.declared.sink_fault.SinkFault.{SinkFault}
use Rattle.sink_popping.specs.declared.sink_fault.SinkFault.TheVariants.{Isolated, OutOfMemory}
use Rattle.sink_popping.specs.Sinks.{IsSinkFault}
use Rattle.cycle_popping.specs.Trees.{weights_of_tree}
use Rattle.pop_print.specs.declared.facts.Facts.{Facts}
use Rattle.pop_print.specs.declared.facts.Facts.TheVariants.{Tree as TreeFacts}
use Rattle.job_subjects.specs.declared.refusal.Refusal.{Refusal}
use Rattle.job_subjects.specs.Refusals.{IsRefusal, unoriented}
use Rattle.job_subjects.specs.StackFaults.{AreFew, RefusesStacks}
use Rattle.job_subjects.specs.Refused.{AreClashed, RefusesEvents, RefusesFormula, RefusesOrienting, HasCutOff, RefusesTree}
use Rattle.job_subjects.specs.Subjects.{pair_weights}

-- stacks of pairs for so many variables
pub pairs_refused : (facts : ℕ → Facts) (origin : Origin) (asked : Option ℕ) (weights : List (List ℕ)) (n k : ℕ)
    → weights ≡ pair_weights n → n ≡ k → (r : Refusal) → RefusesStacks (facts n) origin weights asked r
    → RefusesStacks (facts k) origin (pair_weights k) asked r
pairs_refused facts origin asked weights n k same count r h =
    subst (λ m. RefusesStacks (facts m) origin (pair_weights m) asked r) count
    (subst (λ w. RefusesStacks (facts n) origin w asked r) same h)

-- events that clash, where they may not
clash_refused : (may_clash : Bool) (f : Cnf) (events : List (ℕ × Cube)) (r : Refusal) → AreEventsOf f.clauses events
    → (may_clash ≡ false) × AreClashed events r → RefusesEvents may_clash f r
clash_refused true f events r are (may, clash) = absurd (cc)
clash_refused false f events r are (may, clash) = record { events = events; of_formula = are; clash = clash }

-- a formula whose events clash, over sound stacks, of which few samples are asked for
pub events_refused : (may_clash : Bool) (origin : Origin) (asked : Option ℕ) (f : Cnf) (events : List (ℕ × Cube))
    → IsSound origin (pair_weights f.variables) → AreFew asked (length (pair_weights f.variables))
    → AreEventsOf f.clauses events → (r : Refusal) → (may_clash ≡ false) × AreClashed events r
    → RefusesFormula may_clash origin asked f r
events_refused may_clash origin asked f events sound few are r clash =
    inr (sound, clash_refused may_clash f events r are clash, few)

-- a graph without events of sinks
pub sinks_refused : (origin : Origin) (asked : Option ℕ) (g : GraphOf) (fault : SinkFault) → IsSinkFault g fault
    → IsRefusal (RefusesOrienting origin asked g) (unoriented fault)
sinks_refused origin asked g (Isolated w) least = inr (inl (record { vertex = w; least = least; is = refl }))
sinks_refused origin asked g OutOfMemory h = inl refl

-- a graph in which a vertex is cut off from a root
pub cut_off_refused : (origin : Origin) (asked : Option ℕ) (root : ℕ) (g : GraphOf) → root ≤ g.vertices → (r : Refusal)
    → HasCutOff g root r → RefusesTree origin asked root g r
cut_off_refused origin asked root g last r cut = inr (last, inl cut)

-- one that is connected, with stacks that are refused
pub tree_refused : (origin : Origin) (asked : Option ℕ) (root : ℕ) (g : GraphOf) (weights : List (List ℕ))
    → root ≤ g.vertices → IsConnected g root → weights ≡ weights_of_tree g root → (r : Refusal)
    → RefusesStacks (TreeFacts g root) origin weights asked r → RefusesTree origin asked root g r
tree_refused origin asked root g weights last connected same r h =
    inr (last, inr (connected, subst (λ w. RefusesStacks (TreeFacts g root) origin w asked r) same h))
