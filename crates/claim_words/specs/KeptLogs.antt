-- Tickets that are kept in two lists: heads (ticket, unit, number of pairs), and uses (variable,
-- value, entry) end to end.
use Rattle.std.specs.Prelude.{◌≡◌, ℕ, ◌+◌, ◌<◌, ◌≤◌, ◌^◌, min, List, [], ◌∷◌, ◌++◌, length, map, take, drop, Option, Some, None, IfSome, ⊤}
use Rattle.std.specs.Coded.{Coded-set, Unit-prop, ×_prop, coded_ℕ}
use Rattle.pop_model.specs.Popping.{Cube, IsCube}
use Rattle.pop_model.specs.Logs.{LogRecord}
use Rattle.claim_words.specs.Codes.{mine_coded}
use Rattle.claim_words.specs.Maps.{Each, total}
use Rattle.claim_words.specs.Steps.{Drawn}
use Rattle.claim_words.specs.Machine.{Use}

-- the tickets; the uses of a record that has no ticket yet; and for how many more uses there is
-- room
pub record Kept : Type 0 where
  pub tickets : List Drawn
  pub loose : List Use
  pub spare : ℕ

-- the ticket, the unit and the number of pairs of a record
abbrev pub Head : Type 0
Head = ℕ × ℕ × ℕ

-- the pairs of some uses
abbrev pub pairs_in : List Use → Cube
pairs_in us = map (λ e. (e.0, e.1)) us

-- the entries of some uses
abbrev pub entries_in : List Use → List ℕ
entries_in us = map (λ e. e.2) us

-- the record of these uses
abbrev pub record_of : ℕ → List Use → LogRecord
record_of u us = record {
  event = record { unit = u; cube = pairs_in us };
  entries = entries_in us;
}

-- the number of uses of the heads
abbrev pub many_uses : List Head → ℕ
many_uses hs = total (λ h. h.2) hs

-- the tickets of the heads, each with its share of the uses
abbrev pub tickets_of : List Head → List Use → List Drawn
tickets_of [] us = []
tickets_of (h ∷ hs) us = (h.0, record_of h.1 (take h.2 us)) ∷ tickets_of hs (drop h.2 us)

-- the record has a cube
abbrev pub IsWhole : Drawn → Type 0
IsWhole r = IsCube r.1.event.cube × (length r.1.event.cube < 2 ^ 31)

-- the lists fit, and there is room for this many more uses, and as many heads
pub record AreKept (hs : List Head) (us : List Use) (for_heads for_uses spare : ℕ) : Type 0 where
  pub fit : many_uses hs ≤ length us
  pub whole : Each IsWhole (tickets_of hs us)
  pub uses_room : spare ≤ for_uses
  -- the loose uses also need one head
  pub heads_room : spare + min 1 (length (drop (many_uses hs) us)) ≤ for_heads

-- if a log is kept, it has these tickets and no loose uses
abbrev pub HasTickets : Option Kept → List Drawn → Type 0
HasTickets log mine = IfSome log (λ l. (l.tickets ≡ mine) × (length l.loose ≡ 0))

-- `HasTickets` is a proposition
pub HasTickets-prop : (log : Option Kept) (mine : List Drawn) → IsProp (HasTickets log mine)
HasTickets-prop None mine = Unit-prop
HasTickets-prop (Some l) mine =
    ×_prop (Coded-set mine_coded l.tickets mine) (Coded-set coded_ℕ (length l.loose) 0)

-- if a log is kept, there is room for n pairs
abbrev pub HasRoom : Option Kept → ℕ → Type 0
HasRoom log n = IfSome log (λ l. n ≤ l.spare)

-- the number of pairs that there is room for
abbrev pub spare_in : Option Kept → ℕ
spare_in None = 0
spare_in (Some l) = l.spare

-- both are kept or neither, and this holds for what is kept
abbrev pub Both : (Kept → Kept → Type 0) → Option Kept → Option Kept → Type 0
Both P None None = ⊤
Both P None (Some m) = ⊥
Both P (Some l) None = ⊥
Both P (Some l) (Some m) = P l m

-- the same tickets and loose uses
abbrev pub SameTickets : Option Kept → Option Kept → Type 0
SameTickets old new = Both (λ l m. (m.tickets ≡ l.tickets) × (m.loose ≡ l.loose)) old new

-- these uses were added, and took up their room
abbrev pub Adds : Option Kept → Option Kept → List Use → Type 0
Adds old new us = Both (λ l m. (m.tickets ≡ l.tickets) × (m.loose ≡ l.loose ++ us)
    × (m.spare + length us ≡ l.spare)) old new

-- the loose uses got a ticket
abbrev pub Seals : Option Kept → Option Kept → ℕ → ℕ → Type 0
Seals old new t u = Both (λ l m. (m.tickets ≡ l.tickets ++ (t, record_of u l.loose) ∷ [])
    × (m.loose ≡ []) × (m.spare ≡ l.spare)) old new

-- the loose uses are those of a cube with this many pairs
abbrev pub IsSealable : Option Kept → ℕ → Type 0
IsSealable log n = IfSome log (λ l.
    IsCube (pairs_in l.loose) × (n ≡ length l.loose) × (length l.loose < 2 ^ 31))

-- the tickets of both logs, if both are kept
abbrev pub Unites : Option Kept → Option Kept → Option Kept → Type 0
Unites None other None = ⊤
Unites None other (Some m) = ⊥
Unites (Some l) None new = (new ≡ Some l)
Unites (Some l) (Some o) None = ⊥
Unites (Some l) (Some o) (Some m) =
    (m.tickets ≡ l.tickets ++ o.tickets) × (length m.loose ≡ 0) × (m.spare ≡ l.spare)

-- the tickets are those of the log, if one is kept
abbrev pub IsTold : Option Kept → Option (List Drawn) → Type 0
IsTold None told = (told ≡ None)
IsTold (Some l) told = (told ≡ Some l.tickets)
