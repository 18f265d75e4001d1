-- Ends of runs, and the one-thread run.
use Rattle.std.specs.Prelude.{◌≡◌, ℕ, ◌≤◌, ◌↔◌, List, [], ◌∷◌, length, map, replicate, Contains}
use Rattle.std.specs.List.Sorted.{IsStrictlyIncreasing}
use Rattle.pop_model.specs.Stacks.{variables_of}
use Rattle.pop_model.specs.Popping.{Occurs, IsPoppable, pop}
use Rattle.pop_model.specs.Families.{Event, IsEvent}
use Rattle.pop_model.specs.Instances.{Instance}
use Rattle.pop_model.specs.Logs.{LogRecord, IsLegalAt, replay}

-- no event is poppable
abbrev pub IsEnd : Instance → List ℕ → Type 0
IsEnd i c = (e : Event) → IsEvent i.family e → IsPoppable i.stacks c e.cube → ⊥

-- no event occurs
abbrev pub IsFinished : Instance → List ℕ → Type 0
IsFinished i c = (e : Event) → IsEvent i.family e → Occurs i.stacks c e.cube → ⊥

-- every event that occurs, by rising unit
pub record IsStuckList (i : Instance) (c : List ℕ) (stuck : List Event) : Type 0 where
  pub rising : IsStrictlyIncreasing (map (λ e. e.unit) stuck)
  pub exact : (e : Event) → Contains stuck e ↔ (IsEvent i.family e × Occurs i.stacks c e.cube)

-- the poppable event with the lowest unit
pub record IsFirstPoppable (i : Instance) (c : List ℕ) (e : Event) : Type 0 where
  pub event : IsEvent i.family e
  pub poppable : IsPoppable i.stacks c e.cube
  pub least : (f : Event) → IsEvent i.family f → IsPoppable i.stacks c f.cube → e.unit ≤ f.unit

-- From these cursors the log always pops the first poppable event, until there is none.
abbrev pub IsFirstRun : Instance → List ℕ → List LogRecord → Type 0
IsFirstRun i c [] = IsEnd i c
IsFirstRun i c (r ∷ log) = IsFirstPoppable i c r.event × IsLegalAt i c r
    × IsFirstRun i (pop c r.event.cube) log

-- the cursors before any pop
abbrev pub start_of : Instance → List ℕ
start_of i = replicate (variables_of i.stacks) 0

-- these are the end, the number of pops and the stuck list of the one-thread run
pub record IsFirstEnd (i : Instance) (cursors : List ℕ) (pops : ℕ)
    (stuck : List Event) : Type 0 where
  pub run : (log : List LogRecord) × IsFirstRun i (start_of i) log
      × (cursors ≡ replay (start_of i) log) × (pops ≡ length log)
  pub stuck_list : IsStuckList i cursors stuck
