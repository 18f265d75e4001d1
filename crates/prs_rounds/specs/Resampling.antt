-- The resampling set of partial rejection sampling (Guo, Jerrum and Liu 2019), grown by
-- synchronous steps (this project's reading). A theorem in `Laws` says that it is closed.
use Rattle.std.specs.Prelude.{◌≡◌, ◌≢◌, ◌⊎◌, ℕ, zero, suc, true, List, Contains}
use Rattle.pop_model.specs.Stacks.{StackTable, value_at}
use Rattle.pop_model.specs.Popping.{Occurs, cursor, names}
use Rattle.pop_model.specs.Families.{Event, IsEvent}
use Rattle.pop_model.specs.Instances.{Instance}
use Rattle.pop_model.specs.Extremal.{Share}

-- an event of the family that occurs
pub record OccursIn (i : Instance) (c : List ℕ) (e : Event) : Type 0 where
  pub event : IsEvent i.family e
  pub occurs : Occurs i.stacks c e.cube

-- the fate of an event: it is in the set, or excluded from it
pub data Fate : Type 0 where
  Joined : Fate
  Excluded : Fate

-- the event shares a variable with an event of the set
abbrev pub Touches : (Event → Type 0) → Event → Type 0
Touches set e = (f : Event) × set f × Share e.cube f.cube

-- a variable that the event shares with an event of the set has another value than the event
-- demands
abbrev pub Differs : StackTable → List ℕ → (Event → Type 0) → Event → Type 0
Differs s c set e = (f : Event) × set f × (v x : ℕ) × Contains e.cube (v, x)
    × (names f.cube v ≡ true) × (value_at s v (cursor c v) ≢ x)

-- an event without a fate that shares a variable with an event of the set
pub record IsLookedAt (i : Instance) (has : Fate → Event → Type 0) (e : Event) : Type 0 where
  pub event : IsEvent i.family e
  pub free : (fate : Fate) → has fate e → ⊥
  pub touches : Touches (has Joined) e

-- The fate of an event after this many steps. At first the set has the events that occur. In each
-- step all events that are judged join it, except those that differ, which are excluded.
abbrev pub HasFate : Instance → List ℕ → ℕ → Fate → Event → Type 0
HasFate i c zero Joined e = OccursIn i c e
HasFate i c zero Excluded e = ⊥
HasFate i c (suc n) Joined e = HasFate i c n Joined e
    ⊎ (IsLookedAt i (HasFate i c n) e × (Differs i.stacks c (HasFate i c n Joined) e → ⊥))
HasFate i c (suc n) Excluded e = HasFate i c n Excluded e
    ⊎ (IsLookedAt i (HasFate i c n) e × Differs i.stacks c (HasFate i c n Joined) e)

-- an event of the resampling set: it joins in some step
abbrev pub IsResampled : Instance → List ℕ → Event → Type 0
IsResampled i c e = (n : ℕ) × HasFate i c n Joined e

-- an event that is excluded in some step
abbrev pub IsExcluded : Instance → List ℕ → Event → Type 0
IsExcluded i c e = (n : ℕ) × HasFate i c n Excluded e

-- a variable of some event of the resampling set
abbrev pub IsResampledVariable : Instance → List ℕ → ℕ → Type 0
IsResampledVariable i c v = (e : Event) × IsResampled i c e × (names e.cube v ≡ true)
