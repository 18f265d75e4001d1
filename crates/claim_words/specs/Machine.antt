-- The rule of a board: what holds of its words and of the views of its passes between any two
-- steps.
use Rattle.std.specs.Prelude.{◌≡◌, ◌⊎◌, ℕ, ◌+◌, ◌^◌, ◌<◌, ◌≤◌, List, [], ◌∷◌, length, map, slice_index, cond, ◌==◌, true, Some, None}
use mathlib.Core.Option.{some}
use lib.ListN.{get_elem?}
use Rattle.atomic_table.specs.Table.{State}
use Rattle.pop_model.specs.Popping.{Cube, IsCube}
use Rattle.pop_model.specs.Families.{IsEvent}
use Rattle.pop_model.specs.Instances.{FamilyFits}
use Rattle.pop_model.specs.Logs.{LogRecord}
use Rattle.claim_words.specs.Words.{word_of, mark_of, cursor_in, claimed_bit, settled_bit, Formed}
use Rattle.claim_words.specs.Maps.{total, Each, In, below, Pairs, times, look}
use Rattle.claim_words.specs.Changes.{found_mark, left_mark}
use Rattle.claim_words.specs.Openings.{count, height, Has, begun, marks, is_listed, head_at}
use Rattle.claim_words.specs.Steps.{Drawn, spent}
use Rattle.claim_words.specs.declared.view.View.{View}
use Rattle.claim_words.specs.declared.opening.Opening.{Opening}

-- a variable, the value that an event demands of it, and the entry that its pop used
abbrev pub Use : Type 0
Use = ℕ × ℕ × ℕ

-- each pair with its entry
abbrev pub uses_of : Cube → List ℕ → List Use
uses_of [] ks = []
uses_of (p ∷ ps) [] = (p.0, p.1, 0) ∷ uses_of ps []
uses_of (p ∷ ps) (k ∷ ks) = (p.0, p.1, k) ∷ uses_of ps ks

-- the uses of a record
abbrev pub uses : LogRecord → List Use
uses r = uses_of r.event.cube r.entries

-- the uses of a pop at these held cursors
abbrev pub uses_held : Cube → Pairs → List Use
uses_held e held = uses_of e (map (λ p. look p.0 held) e)

-- the sum of the weights of the used entries of v
abbrev pub used : (ℕ → ℕ) → ℕ → List Use → ℕ
used f v es = total (λ e. cond (e.0 == v) (f e.2) 0) es

-- The record is of an event of the family under its unit, and has an entry for each pair. Each
-- entry has the value that the event demands, and is not the last of its variable.
pub record IsPopped (k : Opening) (r : LogRecord) : Type 0 where
  pub event : IsEvent k.instance.value.family r.event
  pub cube : IsCube r.event.cube
  pub whole : length r.entries ≡ length r.event.cube
  pub each : (e : Use) → In e (uses r)
      → (e.0 < count k) × Has k e.0 e.2 e.1 × (e.2 + 1 < height k e.0)

-- the event of the unit is poppable at these cursors
pub record IsPoppableAt (k : Opening) (a : ℕ → ℕ) (u : ℕ) : Type 0 where
  pub cube : Cube
  pub event : IsEvent k.instance.value.family (record { unit = u; cube = cube })
  pub ready : (p : ℕ × ℕ) → In p cube
      → (p.0 < count k) × Has k p.0 (a p.0) p.1 × (a p.0 + 1 < height k p.0)

module _ (k : Opening) (words : List ℕ) where
  -- the word of a variable
  abbrev pub word : ℕ → ℕ
  word v = slice_index words (word_of v)

  -- the held cursor is the word's
  abbrev pub IsHeldAt : ℕ × ℕ → Type 0
  IsHeldAt p = (p.0 < count k) × (cursor_in (word p.0) ≡ p.1)

  -- no cursor was found that is above the word's
  abbrev pub IsFoundAt : ℕ × ℕ → Type 0
  IsFoundAt p = (p.0 < count k) × (p.1 ≤ cursor_in (word p.0))

  -- a variable that is known to be settled is settled, with the known cursor
  abbrev pub IsSettledAt : ℕ × ℕ → Type 0
  IsSettledAt p =
      (p.0 < count k) × (settled_bit (word p.0) ≡ 1) × (cursor_in (word p.0) ≡ p.1)

  -- the arrows lead from v, through settled variables, to the root or to a variable at its last
  -- entry
  pub data Leads : ℕ → Type 0 where
    at_last : (v : ℕ) → height k v ≤ cursor_in (word v) + 1 → Leads v
    to_root : (v : ℕ) → head_at k v (cursor_in (word v)) ≡ None → Leads v
    goes_on : (v u : ℕ) → head_at k v (cursor_in (word v)) ≡ Some u → u < count k
        → settled_bit (word u) ≡ 1 → Leads u → Leads v

  -- the invariant of each view
  pub record Agrees (d : View) : Type 0 where
    -- a pass of this board with a share, or one that has ended
    pub live : ((d.opening ≡ Some k) × (1 ≤ d.share)) ⊎ (d ≡ spent)
    pub held : Each IsHeldAt d.held
    pub found : Each IsFoundAt d.found
    pub knows : Each IsSettledAt d.settled
    -- a unit that was taken has a mark
    pub taken : Each (λ u. u < marks k) d.taken
    -- each variable with an advance that is due is held
    pub due : (v : ℕ) → times v d.due ≤ times v d.held

module _ {S : Type 0} (k : Opening) (s : State S View) where
  -- the abstract cursor: that of the word, plus 1 if a pass has an advance due
  abbrev pub abstract : ℕ → ℕ
  abstract v = cursor_in (word k s.words v) + total (λ d. times v d.due) s.views

  -- the record is one of some pass
  abbrev pub Member : Drawn → Type 0
  Member r = (j : ℕ) × (d : View) × (get_elem? s.views j ≡ some d) × In r d.mine

  -- the tickets, and the entries that were used, one by one
  pub record History : Type 0 where
    -- each number below that of word 0 is one ticket of exactly one pass, and there are no other
    -- tickets
    pub tickets : (f : ℕ → ℕ)
        → total (λ d. total (λ r. f r.0) d.mine) s.views ≡ below f (slice_index s.words 0)
    -- the used entries of v are those from the start up to, but without, the abstract cursor, each
    -- once
    pub entries : (v : ℕ) → v < count k → (f : ℕ → ℕ)
        → total (λ d. total (λ r. used f v (uses r.1)) d.mine) s.views + below f (begun k v)
        ≡ below f (abstract v)
    pub popped : (r : Drawn) → Member r → IsPopped k r.1
    -- of two entries of one variable the lower one has the lower ticket
    pub order : (r q : Drawn) → Member r → Member q → (e g : Use) → In e (uses r.1)
        → In g (uses q.1) → e.0 ≡ g.0 → e.2 < g.2 → r.0 < q.0
    pub low : (v : ℕ) → v < count k → abstract v < height k v
    -- so word 0 never wraps
    pub few : slice_index s.words 0 ≤ below abstract (count k)

  -- some pass took the mark of the unit, or owes it
  abbrev pub Tracks : ℕ → Type 0
  Tracks u = (j : ℕ) × (d : View) × (get_elem? s.views j ≡ some d) × (In u d.taken ⊎ In u d.owed)

  -- the mark of a unit
  abbrev pub mark : ℕ → ℕ
  mark u = slice_index s.words (mark_of (count k) u)

  -- the sum of the marks that the changes of all passes found at the unit
  abbrev pub found_marks : ℕ → ℕ
  found_marks u = total (λ d. total (found_mark u) d.changes) s.views

  -- the sum of the marks that the changes of all passes left at the unit
  abbrev pub left_marks : ℕ → ℕ
  left_marks u = total (λ d. total (left_mark u) d.changes) s.views

  -- The marks are what the changes made of them. If an event is poppable at the abstract cursors,
  -- its unit is marked, or taken or owed by a pass.
  pub record Marked : Type 0 where
    pub bits : (u : ℕ) → u < marks k → mark u ≤ 1
    -- each mark was set at the start, and is what the changes of all passes left
    pub counts : (u : ℕ) → u < marks k → mark u + found_marks u ≡ 1 + left_marks u
    pub covers : (u : ℕ) → u < marks k → IsPoppableAt k abstract u → (mark u ≡ 1) ⊎ Tracks u

  -- the rule of a board
  pub record Sound : Type 0 where
    pub wide : length s.words ≡ 1 + count k + marks k
    pub formed : (v : ℕ) → v < count k → Formed (word k s.words v)
    pub heights : (v : ℕ) → v < count k → height k v < 2 ^ 31
    pub narrow : count k < 2 ^ 31
    pub shares : total (λ d. d.share) s.views ≡ 64
    -- a word is claimed and not settled exactly if one pass holds its variable, once
    pub held_once : (v : ℕ) → v < count k
        → total (λ d. times v d.held) s.views + settled_bit (word k s.words v)
        ≡ claimed_bit (word k s.words v)
    pub agree : (j : ℕ) (d : View) → get_elem? s.views j ≡ some d → Agrees k s.words d
    pub history : History
    pub leads : (v : ℕ) → v < count k → settled_bit (word k s.words v) ≡ 1 → Leads k s.words v
    -- some pass knows each variable that is settled
    pub known : (v : ℕ) → v < count k
        → settled_bit (word k s.words v) ≤ total (λ d. times v d.settled) s.views
    -- in a listed family no variable is settled
    pub unsettled : is_listed k.instance.value.family ≡ true → (v : ℕ) → v < count k
        → settled_bit (word k s.words v) ≡ 0
    pub marked : Marked
    pub counted : length k.start.value ≡ count k
    pub fits : FamilyFits k.instance.value.stacks k.instance.value.family

-- the words of a board at its start: no ticket, the cursors of the start, and all marks set
pub record Opens (k : Opening) (ws : List ℕ) : Type 0 where
  pub wide : length ws ≡ 1 + count k + marks k
  pub tickets : slice_index ws 0 ≡ 0
  pub at : (v : ℕ) → v < count k
      → (slice_index ws (word_of v) ≡ begun k v) × (begun k v < height k v) × (height k v < 2 ^ 31)
  pub marked : (u : ℕ) → u < marks k → slice_index ws (mark_of (count k) u) ≡ 1
  pub narrow : count k < 2 ^ 31
  pub counted : length k.start.value ≡ count k
  pub fits : FamilyFits k.instance.value.stacks k.instance.value.family
