-- What a pass learns from its steps.
use Rattle.std.specs.Prelude.{◌≡◌, ℕ, ◌^◌, ◌<◌, ◌≤◌, List, Some, true, false}
use Rattle.pop_model.specs.Families.{Event, IsEvent}
use Rattle.pop_model.specs.Popping.{Cube, IsPoppable, cursor, names}
use Rattle.claim_words.specs.Words.{cursor_in, settled_bit, IsLeft}
use Rattle.claim_words.specs.Maps.{Each, In, times}
use Rattle.claim_words.specs.Changes.{mark_after}
use Rattle.claim_words.specs.Openings.{height, is_listed}
use Rattle.claim_words.specs.Steps.{Drawn, claimed_by}
use Rattle.claim_words.specs.Machine.{Use, uses}
use Rattle.claim_words.specs.TicketLogs.{IsLegalFrom, vector}
use Rattle.claim_words.specs.declared.view.View.{View}
use Rattle.claim_words.specs.declared.opening.Opening.{Opening}

-- if the cursor was found at v, it is at most c
abbrev pub AtMost : ℕ → ℕ → ℕ × ℕ → Type 0
AtMost v c p = p.0 ≡ v → p.1 ≤ c

-- every entry of v in these records is below c
abbrev pub IsNewer : ℕ → ℕ → List Drawn → Type 0
IsNewer v c mine = (r : Drawn) (e : Use) → In r mine → In e (uses r.1) → e.0 ≡ v → e.2 < c

-- what a claim of v shows if it found the word w, and the view after it
pub record ClaimTells (d : View) (v w : ℕ) (e : View) : Type 0 where
  pub view : e ≡ claimed_by d v w
  -- the cursor is that of an entry
  pub short : cursor_in w < 2 ^ 31
  pub low : (k : Opening) → d.opening ≡ Some k → cursor_in w < height k v
  -- it is at least each cursor of v that the pass found earlier
  pub found : Each (AtMost v (cursor_in w)) d.found
  -- a pass that is the only one finds only its own claims
  pub refused : d.share ≡ 64 → 2 ^ 63 ≤ w → settled_bit w ≡ 0 → times v d.held ≡ 1
  -- a variable that the pass knows to be settled is found settled, and a pass that is the only one
  -- knows all that are found settled
  pub known : 1 ≤ times v d.settled → settled_bit w ≡ 1
  pub told : d.share ≡ 64 → settled_bit w ≡ 1 → 1 ≤ times v d.settled
  -- in a listed family no variable is settled
  pub listed : (k : Opening) → d.opening ≡ Some k → is_listed k.instance.value.family ≡ true
      → settled_bit w ≡ 0
  -- if the word was free or settled, its cursor is above each entry of v that the pass popped
  pub newer : IsLeft w → IsNewer v (cursor_in w) d.mine

-- What a pass that is the only one learns from the word of v: its records are a legal log, and the
-- word has the cursor of v in its vector.
abbrev pub SoleTells : View → ℕ → ℕ → Type 0
SoleTells d v w = (k : Opening) → d.opening ≡ Some k → d.share ≡ 64
    → IsLegalFrom k d.mine × (cursor_in w ≡ cursor (vector k d.mine) v)

-- no cycle that is poppable at the vector of a pass that is the only one has a variable that the
-- pass knows to be settled
abbrev pub NoneSettled : Opening → View → Type 0
NoneSettled k d = (e : Event) → is_listed k.instance.value.family ≡ false
    → IsEvent k.instance.value.family e
    → IsPoppable k.instance.value.stacks (vector k d.mine) e.cube
    → (v : ℕ) → names e.cube v ≡ true → times v d.settled ≡ 0

-- if the pass is the only one, its records are a legal log, and the variables that it knows to be
-- settled are done
abbrev pub SoleKnows : View → Type 0
SoleKnows d = (k : Opening) → d.opening ≡ Some k → d.share ≡ 64
    → IsLegalFrom k d.mine × NoneSettled k d

-- the event of u is not poppable at the vector of a pass that is the only one
abbrev pub NonePoppable : Opening → View → ℕ → Type 0
NonePoppable k d u = (cube : Cube)
    → IsEvent k.instance.value.family (record { unit = u; cube = cube })
    → IsPoppable k.instance.value.stacks (vector k d.mine) cube → ⊥

-- What a pass that is the only one learns from the mark of u. Its records are a legal log. If the
-- mark was 0 and u is neither taken nor owed, the event of u is not poppable.
abbrev pub SoleTakes : View → ℕ → ℕ → Type 0
SoleTakes d u w = (k : Opening) → d.opening ≡ Some k → d.share ≡ 64
    → IsLegalFrom k d.mine
    × (w ≡ 0 → (In u d.taken → ⊥) → (In u d.owed → ⊥) → NonePoppable k d u)

-- what a pass that is the only one knows of the mark of u before a step that finds w there: it
-- follows from its changes
abbrev pub SoleFinds : View → ℕ → ℕ → Type 0
SoleFinds d u w = d.share ≡ 64 → w ≡ mark_after u d.changes
