-- The error of an input, a formula, a graph or its stacks is printed: it is not an error of arguments, and not a stop.
use Rattle.std.specs.Prelude.{⊤}
use Rattle.std.proofs.Common.{inl, inr, ◌≡◌, ℕ, Bool, true, false, List, Option, sym, subst}
use Rattle.pop_model.specs.Stacks.{Origin}
use Rattle.pop_model.specs.Stacks.Origin.{Given, Keyed}
use Rattle.pop_edge.specs.declared.refusal.ReadRefusal.{ReadRefusal}
use Rattle.pop_edge.specs.declared.refusal.ReadRefusal.TheVariants.{Malformed as MalformedLine, Count as WrongCount, EmptyClause as NoLiteral, Limit as PassedLimit, ReadFault as ReadingFailed, OutOfMemory as ReadingMemory}
use Rattle.pop_stacks.specs.Faults.{IsCause}
use Rattle.pop_stacks.specs.declared.stack_fault.StackFault.{StackFault}
use Rattle.pop_stacks.specs.declared.stack_fault.StackFault.TheVariants.{RowCount as WrongRowCount, EmptyRow as NoEntry, ValueTooLarge as LargeValue, WeightSum as HeavyWeights, OutOfMemory as StackMemory}
use Rattle.dimacs_read.specs.Cnf.{Cnf}
use Rattle.graph_read.specs.Graphs.{GraphOf}
use Rattle.pop_words.specs.declared.command.Command.{Command}
use Rattle.pop_words.specs.declared.command.Command.TheVariants.{Formula, Orient, Tree, Resample, Check, Make, Rounds}
use Rattle.pop_print.specs.declared.facts.Facts.{Facts}
use Rattle.job_subjects.specs.declared.refusal.Refusal.{Refusal}
use Rattle.job_subjects.specs.declared.refusal.Refusal.TheVariants.{Usage, Stopped}
use Rattle.job_subjects.specs.declared.wanted.Wanted.{Wanted}
use Rattle.job_subjects.specs.Refusals.{unread}
use Rattle.job_subjects.specs.StackFaults.{unsound, RefusesStacks}
use Rattle.job_subjects.specs.Refused.{IsOfText, IsUnread, IsClashing, RefusesEvents, RefusesFormula, RefusesOrienting, RefusesTree, RefusesBy, RefusesText}

-- it is no refusal of words, and no stop
abbrev pub IsOfInput : Refusal → Type 0
IsOfInput (Usage place) = ⊥
IsOfInput (Stopped stop) = ⊥
IsOfInput refusal = ⊤

-- so is one that is the same
pub of_same : (r q : Refusal) → r ≡ q → IsOfInput q → IsOfInput r
of_same r q is of = subst IsOfInput (sym is) of

-- a refusal of the text itself
unread_input : (cause : ReadRefusal) → IsOfText cause → IsOfInput (unread cause)
unread_input (MalformedLine l code) of = tt
unread_input (WrongCount declared found) of = tt
unread_input (NoLiteral number) of = tt
unread_input (PassedLimit kind l) of = tt
unread_input ReadingFailed of = absurd of
unread_input ReadingMemory of = absurd of

of_unread : {Refused : ReadRefusal → Type 0} (r : Refusal) → IsUnread Refused r → IsOfInput r
of_unread r h = of_same r (unread h.cause) h.is (unread_input h.cause h.of_text)

-- a fault of stacks
unsound_input : (facts : Facts) (origin : Origin) (weights : List (List ℕ)) (fault : StackFault)
    → IsCause origin weights fault → IsOfInput (unsound facts fault)
unsound_input facts origin weights (WrongRowCount given wanted) cause = tt
unsound_input facts origin weights (NoEntry v) cause = tt
unsound_input facts origin weights (LargeValue v k) cause = tt
unsound_input facts origin weights (HeavyWeights v) cause = tt
unsound_input facts (Given rows) weights StackMemory cause = absurd cause
unsound_input facts (Keyed key sample height) weights StackMemory cause = absurd cause

of_stacks : (facts : Facts) (origin : Origin) (weights : List (List ℕ)) (asked : Option ℕ) (r : Refusal)
    → RefusesStacks facts origin weights asked r → IsOfInput r
of_stacks facts origin weights asked r (inl many) = of_same r _ many.is tt
of_stacks facts origin weights asked r (inr (faulty, few)) =
    of_same r (unsound facts faulty.fault) faulty.is (unsound_input facts origin weights faulty.fault faulty.cause)

-- a clash
of_clash : (f : Cnf) (r : Refusal) → IsClashing f r → IsOfInput r
of_clash f r h = of_same r _ h.clash.is tt

of_events : (may_clash : Bool) (f : Cnf) (r : Refusal) → RefusesEvents may_clash f r → IsOfInput r
of_events true f r h = absurd h
of_events false f r h = of_clash f r h

-- a refusal of a formula, of a graph
of_formula : (may_clash : Bool) (origin : Origin) (asked : Option ℕ) (f : Cnf) (r : Refusal)
    → RefusesFormula may_clash origin asked f r → IsOfInput r
of_formula may_clash origin asked f r (inl stacks) = of_stacks _ origin _ asked r stacks
of_formula may_clash origin asked f r (inr (sound, clash, few)) = of_events may_clash f r clash

of_orienting : (origin : Origin) (asked : Option ℕ) (g : GraphOf) (r : Refusal)
    → RefusesOrienting origin asked g r → IsOfInput r
of_orienting origin asked g r (inl isolated) = of_same r _ isolated.is tt
of_orienting origin asked g r (inr (touched, stacks)) = of_stacks _ origin _ asked r stacks

of_tree : (origin : Origin) (asked : Option ℕ) (root : ℕ) (g : GraphOf) (r : Refusal)
    → RefusesTree origin asked root g r → IsOfInput r
of_tree origin asked root g r (inl (is, large)) = of_same r _ is tt
of_tree origin asked root g r (inr (last, inl cut)) = of_same r _ cut.is tt
of_tree origin asked root g r (inr (last, inr (joined, stacks))) = of_stacks _ origin _ asked r stacks

-- of the text that a command reads
of_text_by : (k : Command) (w : Wanted) (text : List ℕ) (r : Refusal) → RefusesBy k w text r → IsOfInput r
of_text_by Formula w text r (inl cause) = of_unread r cause
of_text_by Formula w text r (inr (f, spelled, h)) = of_formula false w.origin w.count f r h
of_text_by Orient w text r (inl cause) = of_unread r cause
of_text_by Orient w text r (inr (g, spelled, h)) = of_orienting w.origin w.count g r h
of_text_by Tree w text r (inl cause) = of_unread r cause
of_text_by Tree w text r (inr (g, spelled, h)) = of_tree w.origin w.count w.root g r h
of_text_by Resample w text r (inl cause) = of_unread r cause
of_text_by Resample w text r (inr (f, spelled, h)) = of_formula true w.origin w.count f r h
of_text_by Check w text r (inl cause) = of_unread r cause
of_text_by Check w text r (inr (f, spelled, h)) = of_clash f r h
of_text_by Rounds w text r (inl cause) = of_unread r cause
of_text_by Rounds w text r (inr (f, spelled, h)) = of_formula true w.origin w.count f r h
of_text_by Make w text r h = of_stacks _ w.origin _ w.count r h
of_text_by k w text r h = absurd h

pub of_text : (w : Wanted) (text : List ℕ) (r : Refusal) → RefusesText w text r → IsOfInput r
of_text w text r h = of_text_by w.command w text r h
