-- The conditions under which a pass may make a step.
use Rattle.std.specs.Prelude.{◌≡◌, ◌≢◌, ◌⊎◌, ℕ, ◌+◌, ◌<◌, ◌≤◌, Some, None}
use Rattle.pop_model.specs.Stacks.{value_at, height_of}
use Rattle.pop_model.specs.Popping.{Cube}
use Rattle.pop_model.specs.Families.{IsEvent}
use Rattle.pop_model.specs.Instances.{Instance}
use Rattle.claim_words.specs.Maps.{Pairs, Each, In, times, look}
use Rattle.claim_words.specs.Openings.{count, height, head_at}
use Rattle.claim_words.specs.declared.view.View.{View}
use Rattle.claim_words.specs.declared.opening.Opening.{Opening}

-- the variable of the pair is held, has the pair's value at the held cursor, and has an entry
-- after it
abbrev pub IsReady : Instance → Pairs → ℕ × ℕ → Type 0
IsReady i held p = (times p.0 held ≡ 1) × (value_at i.stacks p.0 (look p.0 held) ≡ p.1)
    × (look p.0 held + 1 < height_of i.stacks p.0)

-- the pass may pop this event of the instance
pub record CanPop (i : Instance) (d : View) (u : ℕ) (cube : Cube) : Type 0 where
  pub event : IsEvent i.family (record { unit = u; cube = cube })
  pub ready : Each (IsReady i d.held) cube

-- the pass owes an advance for each pair, and holds the pairs' variables
abbrev pub IsDue : ℕ → View → Pairs → Type 0
IsDue n d cube = (d.due ≡ cube) × ((v : ℕ) → times v cube ≤ 1)
    × Each (λ p. (p.0 < n) × (times p.0 d.held ≡ 1)) cube

-- the variables of the pairs are below the count of the pass's board
abbrev pub IsNear : View → Cube → Type 0
IsNear d cube = (k : Opening) → d.opening ≡ Some k → Each (λ p. p.0 < count k) cube

-- the variable is at its last entry, or its arrow leads to the root or to a variable that the pass
-- knows to be settled
pub data MaySettle (k : Opening) (d : View) (v : ℕ) : Type 0 where
  last : height k v ≤ look v d.held + 1 → MaySettle k d v
  root : head_at k v (look v d.held) ≡ None → MaySettle k d v
  known : (u : ℕ) → head_at k v (look v d.held) ≡ Some u → 1 ≤ times u d.settled → MaySettle k d v

-- the event of the unit names the variable, which is held at its last entry or with another value
-- than the event's
pub record RulesOut (i : Instance) (held : Pairs) (u v : ℕ) : Type 0 where
  pub cube : Cube
  pub value : ℕ
  pub event : IsEvent i.family (record { unit = u; cube = cube })
  pub names_it : In (v, value) cube
  pub out : (value_at i.stacks v (look v held) ≢ value) ⊎ (height_of i.stacks v ≤ look v held + 1)
