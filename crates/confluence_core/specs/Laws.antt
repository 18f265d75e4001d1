-- Theorems about popping on extremal instances.
use Rattle.std.specs.Prelude.{◌≡◌, ◌≢◌, ◌↔◌, ◌≤◌, ℕ, Bool, List, [], length, map, IsPermutation}
use Rattle.pop_model.specs.Stacks.{StackTable, height_of, stacks_raised, Extends}
use Rattle.pop_model.specs.Popping.{IsPoppable, pop}
use Rattle.pop_model.specs.Families.{Event, IsEvent}
use Rattle.pop_model.specs.Instances.{Instance, IsInstance, instance_raised}
use Rattle.pop_model.specs.Extremal.{IsExtremal, Share}
use Rattle.pop_model.specs.Logs.{LogRecord, IsLegal, replay}
use Rattle.pop_model.specs.Runs.{IsEnd, IsFinished, IsStuckList}
use Rattle.confluence_core.specs.Stretches.{GoesOn, IsReached}
use Rattle.confluence_core.specs.declared.reached.Reached.{Reached}

-- two events share no variable, each stays poppable after the pop of the other, and both orders
-- lead to the same cursors
pub record Commute (i : Instance) (c : List ℕ) (e f : Event) : Type 0 where
  pub apart : Share e.cube f.cube → ⊥
  pub first_stays : IsPoppable i.stacks (pop c f.cube) e.cube
  pub second_stays : IsPoppable i.stacks (pop c e.cube) f.cube
  pub one_vector : pop (pop c e.cube) f.cube ≡ pop (pop c f.cube) e.cube

-- the diamond property (Baader and Nipkow 1998) of popping: different events that are poppable
-- together commute
abbrev pub Diamond : Type 0
Diamond = (i : Instance) → IsExtremal i.family → (c : List ℕ) (e f : Event)
    → IsEvent i.family e → IsEvent i.family f → e ≢ f
    → IsPoppable i.stacks c e.cube → IsPoppable i.stacks c f.cube → Commute i c e f

-- a legal log from these cursors to an end
pub record RunsToEnd (i : Instance) (c : List ℕ) (log : List LogRecord) : Type 0 where
  pub legal : IsLegal i c log
  pub end : IsEnd i (replay c log)

-- runs from the same cursors to an end have at most one end and one length
abbrev pub UniqueEnd : Type 0
UniqueEnd = (i : Instance) → IsExtremal i.family → (c : List ℕ) (log other : List LogRecord)
    → RunsToEnd i c log → RunsToEnd i c other
    → (replay c log ≡ replay c other) × (length log ≡ length other)

-- runs from the same cursors to an end have the same records
abbrev pub EqualRecords : Type 0
EqualRecords = (i : Instance) → IsExtremal i.family → (c : List ℕ) (log other : List LogRecord)
    → RunsToEnd i c log → RunsToEnd i c other → IsPermutation log other

-- some legal log leads to cursors at which no event occurs
abbrev pub CanFinish : Instance → List ℕ → Type 0
CanFinish i c = (log : List LogRecord) × IsLegal i c log × IsFinished i (replay c log)

-- some event occurs at an end exactly if no legal log leads to cursors at which none occurs
abbrev pub ExhaustedExactly : Type 0
ExhaustedExactly = (i : Instance) → IsExtremal i.family → (c : List ℕ) (log : List LogRecord)
    (stuck : List Event) → RunsToEnd i c log → IsStuckList i (replay c log) stuck
    → (stuck ≢ []) ↔ (CanFinish i c → ⊥)

-- a legal log is legal over stacks that have the same entries and possibly more
abbrev pub TallerLegal : Type 0
TallerLegal = (i : Instance) (taller : StackTable) → Extends i.stacks taller
    → (c : List ℕ) (log : List LogRecord) → IsLegal i c log
    → IsLegal (record { stacks = taller; family = i.family }) c log

-- stacks that are raised to a height which is not lower have the same entries and possibly more
abbrev pub RaisedExtends : Type 0
RaisedExtends = (s : StackTable) (height : ℕ) → ((v : ℕ) → height_of s v ≤ height)
    → Extends s (stacks_raised height s)

-- two stretches are one if the second begins at the end of the first
abbrev pub StretchesJoin : Type 0
StretchesJoin = (i : Instance) (a b c : Reached) → GoesOn i a b → GoesOn i b c → GoesOn i a c

-- the state of a run is also a state of the run over raised stacks, with the events that occur
-- there as suspects
abbrev pub ReachedRaised : Type 0
ReachedRaised = (i : Instance) (height : ℕ) → IsInstance i
    → ((v : ℕ) → height_of i.stacks v ≤ height) → (start : List ℕ) (keeps : Bool) (reached : Reached)
    (stuck : List Event) → IsReached i start keeps reached → IsStuckList i reached.cursors stuck
    → IsReached (instance_raised height i) start keeps
    (record reached { suspects = map (λ e. e.unit) stuck })
