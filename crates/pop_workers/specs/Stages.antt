-- Runs in stages, with growing heights (this project's choice).
use Rattle.std.specs.Prelude.{◌≡◌, ◌⊎◌, ℕ, ◌*◌, ◌<◌, ◌≤◌, min, Bool, List, []}
use Rattle.pop_model.specs.Stacks.{height_of}
use Rattle.pop_model.specs.Families.{Event}
use Rattle.pop_model.specs.Instances.{Instance, instance_raised}
use Rattle.pop_model.specs.Runs.{start_of}
use Rattle.confluence_core.specs.declared.reached.Reached.{Reached}
use Rattle.confluence_core.specs.declared.run.Run.{Run}
use Rattle.confluence_core.specs.Runs.{ended}
use Rattle.confluence_core.specs.Stretches.{GoesOn, HasEnded, IsReached}

-- the height of keyed stacks, which is the same for all variables
abbrev pub height : Instance → ℕ
height i = height_of i.stacks 0

-- the height of the stage after one of height h: twice as much, but at most the last one
abbrev pub next_height : ℕ → ℕ → ℕ
next_height last h = min (2 * h) last

-- the instance of the stage after this one
abbrev pub at_next_height : ℕ → Instance → Instance
at_next_height last i = instance_raised (next_height last (height i)) i

-- no stage follows one with this stuck list: no event occurs at its end, or its height is the last
abbrev pub IsLast : ℕ → Instance → List Event → Type 0
IsLast last i stuck = (stuck ≡ []) ⊎ (height i ≡ last)

-- a stage of height h follows one with this stuck list
pub record IsToCome (last : ℕ) (i : Instance) (stuck : List Event) (h : ℕ) : Type 0 where
  pub goes_on : IsLast last i stuck → ⊥
  pub is : h ≡ next_height last (height i)
  pub higher : height i < h

-- the state of a run after some stages, and the stuck events there; the last stage has the height
-- of the second instance
pub data StagesLead (last : ℕ) (i : Instance) (keeps : Bool)
    : Instance → Reached → List Event → Type 0 where
  -- the first stage begins at zeros
  one : (reached : Reached) (stuck : List Event) → IsReached i (start_of i) keeps reached
      → HasEnded i reached stuck → StagesLead last i keeps i reached stuck
  -- each other stage continues at the next height from the end of the stage before it
  more : (j : Instance) (before reached : Reached) (old stuck : List Event)
      → StagesLead last i keeps j before old → (IsLast last j old → ⊥)
      → GoesOn (at_next_height last j) before reached
      → HasEnded (at_next_height last j) reached stuck
      → StagesLead last i keeps (at_next_height last j) reached stuck

-- the result of some stages; the last one has the height of the second instance
abbrev pub AreStages : ℕ → Instance → Bool → Instance → Run → Type 0
AreStages last i keeps j run = StagesLead last i keeps j (ended run) run.end.stuck

-- the stage of the second instance has begun: the first one, or one that follows others
abbrev pub HasBegun : ℕ → Instance → Bool → Instance → Type 0
HasBegun last i keeps j = (j ≡ i) ⊎ ((k : Instance) × (before : Reached) × (stuck : List Event)
    × StagesLead last i keeps k before stuck × (IsLast last k stuck → ⊥)
    × (j ≡ at_next_height last k))

-- the instance is the first one, raised by stages, and the last stage has begun at its height
pub record HasGrown (last : ℕ) (i : Instance) (keeps : Bool) (j : Instance) : Type 0 where
  pub begun : HasBegun last i keeps j
  pub raised : j ≡ instance_raised (height j) i
  pub low : height j ≤ last

-- stages were made from zeros, and the last of them has reached its end
pub record AreMade (last : ℕ) (i : Instance) (keeps : Bool) (j : Instance) (left : Reached)
    (stuck : List Event) : Type 0 where
  pub staged : StagesLead last i keeps j left stuck
  pub reached : IsReached j (start_of i) keeps left
  pub end : HasEnded j left stuck
