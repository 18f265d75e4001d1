-- What each step shows the pass that makes it: what it found, and the pass before it and after.
use Rattle.std.specs.Prelude.{◌≡◌, ℕ, ◌<◌, ◌≤◌}
use Rattle.atomic_table.specs.Table.{Me}
use Rattle.pop_model.specs.Popping.{Cube}
use Rattle.claim_words.specs.declared.view.View.{View}
use Rattle.claim_words.specs.Words.{cursor_in}
use Rattle.claim_words.specs.Maps.{In, look}
use Rattle.claim_words.specs.Steps.{Drawn, drawn_by, advanced_by, settled_by, taken_by, marked_by}
use Rattle.claim_words.specs.Conditions.{IsNear}
use Rattle.claim_words.specs.Tells.{ClaimTells, SoleTells, SoleKnows, SoleTakes, SoleFinds}

module _ {S : Type 0} where
  -- a claim of v
  abbrev pub ClaimTold : Me S View → ℕ → ℕ → Me S View → Type 0
  ClaimTold m v r n = ClaimTells m.0 v r n.0 × (n.1 ≡ m.1) × SoleTells m.0 v r × SoleKnows n.0

  -- a ticket for the event of u
  abbrev pub TicketTold : Me S View → ℕ → Cube → ℕ → Me S View → Type 0
  TicketTold m u cube r n = (n ≡ (drawn_by m.0 u cube r, m.1))
      × ((q : Drawn) → In q m.0.mine → q.0 < r) × SoleKnows n.0 × IsNear m.0 cube

  -- an advance of v
  abbrev pub AdvanceTold : Me S View → ℕ → ℕ → Me S View → Type 0
  AdvanceTold m v r n = (n ≡ (advanced_by m.0 v, m.1)) × (cursor_in r ≡ look v m.0.held)

  -- a settle of v
  abbrev pub SettleTold : Me S View → ℕ → ℕ → Me S View → Type 0
  SettleTold m v r n = (n ≡ (settled_by m.0 v, m.1)) × SoleKnows n.0

  -- a take of the mark of u
  abbrev pub TakeTold : Me S View → ℕ → ℕ → Me S View → Type 0
  TakeTold m u r n = (n ≡ (taken_by m.0 u r, m.1)) × (r ≤ 1) × SoleTakes m.0 u r
      × SoleFinds m.0 u r × SoleKnows n.0

  -- a mark of u
  abbrev pub MarkTold : Me S View → ℕ → ℕ → Me S View → Type 0
  MarkTold m u r n = (n ≡ (marked_by m.0 u r, m.1)) × (r ≤ 1) × SoleFinds m.0 u r
