-- Whether some legal log of listed events leads to given cursors is found by trying each event that is poppable, since a
-- pop takes from the room. The events may clash.
use Rattle.std.proofs.Common.{inl, inr, ◌≡◌, ◌⊎◌, ℕ, zero, suc, ◌≤◌, List, [], ◌∷◌, length, refl, ◌∙◌, arith}
use Rattle.pop_model.specs.Stacks.{StackTable, variables_of}
use Rattle.pop_model.specs.Popping.{Cube, IsPoppable, pop}
use Rattle.pop_model.specs.Families.{Event, IsFamily}
use Rattle.pop_model.specs.Families.Family.{Listed}
use Rattle.pop_model.specs.Instances.{Instance, FamilyFits}
use Rattle.pop_model.specs.Logs.{LogRecord, IsLegal, replay, entries_at}
use Rattle.pop_model.proofs.FirstRun.{poppable_or_not}
use Rattle.pop_model.proofs.PopLemmas.{length-pop}
use Rattle.pop_model.proofs.Room.{left_from}
use Rattle.pop_samples.proofs.Conses.{same_list}
use Rattle.pop_samples.proofs.Ending.{IsAt, NoneIs, taken, tried}

-- a legal log leads from these cursors to those
abbrev pub Leads : Instance → List ℕ → List ℕ → Type 0
Leads i c d = (log : List LogRecord) × IsLegal i c log × (replay c log ≡ d)

-- one does, or none
abbrev pub LeadsOrNot : Instance → List ℕ → List ℕ → Type 0
LeadsOrNot i c d = Leads i c d ⊎ (Leads i c d → ⊥)

module _ (s : StackTable) (rows : List (ℕ × Cube)) where
  -- the instance of these events
  abbrev listed : Instance
  listed = record { stacks = s; family = Listed rows }

  -- the event is poppable, and from where its pop leads a log leads on
  abbrev LeadsBy : List ℕ → List ℕ → Cube → Type 0
  LeadsBy c d e = IsPoppable s c e × Leads listed (pop c e) d

  -- a log that isn't empty begins with such an event
  begins : (c d : List ℕ) → (c ≡ d → ⊥) → NoneIs (LeadsBy c d) rows → Leads listed c d → ⊥
  begins c d other none ([], legal, leads) = other leads
  begins c d other none (r ∷ log, legal, leads) =
      none r.event.unit legal.0.event.0 r.event.cube legal.0.event.1 (legal.0.poppable, (log, legal.1, leads))

  -- so one leads from cursors where one leads from where some pop does
  by_pops : (c d : List ℕ)
      → ((u n : ℕ) (e : Cube) → IsAt rows u n e → IsPoppable s c e → LeadsOrNot listed (pop c e) d)
      → LeadsOrNot listed c d
  by_pops c d on = elim (same_list c d) [
    | inl same ↦ inl ([], tt, same)
    | inr other ↦ elim (tried (LeadsBy c d) rows (λ u n e at. elim (poppable_or_not s c e) [
      | inr not ↦ inr (λ by. not by.0)
      | inl is ↦ elim (on u n e at is) [
        | inl leads ↦ inl (is, leads)
        | inr none ↦ inr (λ by. none by.1)
      ]
    ])) [
      | inr none ↦ inr (begins c d other none)
      | inl some ↦
          let first : Event = record { unit = some.unit; cube = some.cube } in
          let (log, legal, leads) = some.is.1 in
          inl (
            record { event = first; entries = entries_at c some.cube } ∷ log,
            (record { event = (some.number, some.at); poppable = some.is.0; entries = refl }, legal),
            leads,
          )
    ]
  ]

  module _ (family : IsFamily (Listed rows)) (fits : FamilyFits s (Listed rows)) where
    -- with room for at most n pops
    by_room : (n : ℕ) (c d : List ℕ) → length c ≡ variables_of s → left_from s 0 c ≤ n → LeadsOrNot listed c d
    by_room zero c d size room = by_pops c d (λ u m e at is.
        let less = taken listed family fits c size (record { unit = u; cube = e }) (m, at) is in
        absurd (omega (arith, less, room)))
    by_room (suc n) c d size room = by_pops c d (λ u m e at is.
        let less = taken listed family fits c size (record { unit = u; cube = e }) (m, at) is in
        by_room n (pop c e) d (length-pop c e ∙ size) (omega (arith, less, room)))

    -- from any cursors
    pub leads_or_not : (c d : List ℕ) → length c ≡ variables_of s → LeadsOrNot listed c d
    leads_or_not c d size = by_room (left_from s 0 c) c d size (omega arith)
