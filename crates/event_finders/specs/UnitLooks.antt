-- The results of claiming an event's variables. In this file d is the view of a pass before the
-- claims, and e the view after them.
use Rattle.std.specs.Prelude.{◌≡◌, ◌≢◌, ℕ, ◌+◌, ◌<◌, ◌≤◌, true, ◌++◌, map, take, length, slice_get, Some}
use Rattle.pop_model.specs.Stacks.{value_at, height_of}
use Rattle.pop_model.specs.Popping.{Cube, variables, names, cursor}
use Rattle.pop_model.specs.Instances.{Instance}
use Rattle.pop_model.specs.Places.{IsLeast}
use Rattle.claim_words.specs.declared.view.View.{View}
use Rattle.claim_words.specs.declared.opening.Opening.{Opening}
use Rattle.claim_words.specs.declared.claim.Claim.TheVariants.{Mine, Busy as Refused}
use Rattle.claim_words.specs.Words.{word_of}
use Rattle.claim_words.specs.Maps.{Each, times, look}
use Rattle.claim_words.specs.Answers.{Claims}
use Rattle.claim_words.specs.TicketLogs.{vector}
use Rattle.event_finders.specs.Gains.{gained, Entered}
use Rattle.event_finders.specs.declared.variable_look.VariableLook.{VariableLook}
use Rattle.event_finders.specs.declared.variable_look.VariableLook.TheVariants.{Fits, Differs, Busy}
use Rattle.event_finders.specs.declared.unit_look.UnitLook.{UnitLook}
use Rattle.event_finders.specs.declared.unit_look.UnitLook.TheVariants.{Poppable, AtLast, Differs as UnitDiffers, Busy as UnitBusy}

-- the cursor of v that the pass found last
abbrev pub found_at : View → ℕ → ℕ
found_at e v = look v e.found

-- one claim of v, which should have the value x, with this result
abbrev pub Looks : Instance → View → ℕ → ℕ → View → VariableLook → Type 0
Looks i d v x e (Fits c) = Claims d v e (Mine c) × (value_at i.stacks v c ≡ x)
Looks i d v x e (Differs c) = Claims d v e (Mine c) × (value_at i.stacks v c ≢ x)
Looks i d v x e (Busy w) = Claims d v e (Refused w)

-- claims change only what is held, found, settled and seen
pub record SameElse (d e : View) : Type 0 where
  pub opening : e.opening ≡ d.opening
  pub share : e.share ≡ d.share
  pub moves : e.moves ≡ d.moves
  pub taken : e.taken ≡ d.taken
  pub owed : e.owed ≡ d.owed
  pub changes : e.changes ≡ d.changes
  pub mine : e.mine ≡ d.mine

-- the first n variables of the cube were claimed, each once, and the first m of these are held
pub record ClaimsFirst (d e : View) (cube : Cube) (n m : ℕ) : Type 0 where
  pub same : SameElse d e
  pub grows : e.seen ≡ d.seen ++ gained d e
  pub words : variables (gained d e) ≡ map word_of (variables (take n cube))
  pub held : variables e.held ≡ variables (take m cube)

-- the pass claimed v and holds it, at the cursor that it found; for a pass that is the only one
-- this is the cursor of its vector
pub record HasClaimed (d e : View) (v : ℕ) : Type 0 where
  pub once : times v e.held ≡ 1
  pub held : look v e.held ≡ found_at e v
  pub claimed : Entered (gained d e) v (Mine (found_at e v))
  pub known : 1 ≤ times v e.found
  pub vector : (k : Opening) → d.opening ≡ Some k → d.share ≡ 64
      → found_at e v ≡ cursor (vector k d.mine) v

-- the pass claimed the variable of the pair, and its value is the pair's
abbrev pub HasValue : Instance → View → View → ℕ × ℕ → Type 0
HasValue i d e p = HasClaimed d e p.0 × (value_at i.stacks p.0 (found_at e p.0) ≡ p.1)

-- the variable has an entry after the cursor that was found
abbrev pub HasMore : Instance → View → ℕ × ℕ → Type 0
HasMore i e p = found_at e p.0 + 1 < height_of i.stacks p.0

-- the cube names the variable, and the cursor that was found is its last entry
abbrev pub IsAtLast : Instance → View → Cube → ℕ → Type 0
IsAtLast i e cube v = (names cube v ≡ true) × (found_at e v + 1 ≡ height_of i.stacks v)

-- The claims of an event's variables in their order, with this result. Either all have the event's
-- values, or the claims end at the pair of place j: its variable has another value or is busy.
abbrev pub UnitLooks : Instance → View → Cube → View → UnitLook → Type 0
UnitLooks i d cube e Poppable = ClaimsFirst d e cube (length cube) (length cube)
    × Each (HasValue i d e) cube × Each (HasMore i e) cube
UnitLooks i d cube e (AtLast v c) = ClaimsFirst d e cube (length cube) (length cube)
    × Each (HasValue i d e) cube × IsLeast (IsAtLast i e cube) v × (found_at e v ≡ c)
UnitLooks i d cube e (UnitDiffers j v c) = (x : ℕ) × (slice_get cube j ≡ Some (v, x))
    × ClaimsFirst d e cube (j + 1) (j + 1)
    × HasClaimed d e v × (found_at e v ≡ c) × (value_at i.stacks v c ≢ x)
UnitLooks i d cube e (UnitBusy j v w) = (x : ℕ) × (slice_get cube j ≡ Some (v, x))
    × ClaimsFirst d e cube (j + 1) j
    × Entered (gained d e) v (Refused w) × (d.share ≢ 64)
