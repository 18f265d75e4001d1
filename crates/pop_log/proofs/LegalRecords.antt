-- A legal record may be printed: its event is one of the family, and its entries are below heights of 31 bits. The
-- same holds for the records of a log in layered order, with layers from 1 to their number. What is printed of legal
-- records determines them. So after a prefix of a legal log no other record is printed like the log's next.
use Rattle.std.proofs.Common.{inl, inr, ◌≡◌, ℕ, ◌+◌, ◌^◌, ◌<◌, ◌≤◌, List, [], ◌∷◌, ◌++◌, length, map, Some, get_or, sym, ap, subst, ◌∙◌, arith, All, Contains, refl}
use Rattle.std.specs.List.{AllByRecursion, zip}
use Rattle.std.proofs.lemmas.List.{length-map, get_or-map}
use Rattle.std.proofs.lemmas.List.Elements.{All-map, Contains-push_cases}
use Rattle.std.proofs.lemmas.Slice.Zip.{firsts-zip, seconds-zip}
use Rattle.pop_model.specs.Stacks.{variables_of}
use Rattle.pop_model.specs.Popping.{Cube, NamesBelow, variables, cursor, pop}
use Rattle.pop_model.specs.Families.{Event, Family, IsEvent}
use Rattle.pop_model.specs.Families.Family.{Listed, Cycles}
use Rattle.pop_model.specs.Instances.{Instance, IsInstance, FamilyFits}
use Rattle.pop_model.specs.Logs.{LogRecord, IsLegalAt, IsLegal, entries_at, replay}
use Rattle.pop_log.specs.declared.names.Names.{Names}
use Rattle.pop_log.specs.declared.log_version.LogVersion.TheVariants.{Layered}
use Rattle.pop_log.specs.Printed.{Printed, printed, name_of, number_of, MayBePrinted, HasVariables}
use Rattle.pop_log.specs.PrintedWords.{FitsWords}
use Rattle.pop_log.specs.Candidates.{NumbersFit}
use Rattle.pop_log.specs.Layers.{Placed}
use Rattle.pop_log.specs.Layered.{AreInLayers}
use Rattle.pop_log.specs.LayeredTexts.{written}
use Rattle.pop_log.specs.LogVersions.{MayBeWritten}
use Rattle.confluence_core.proofs.EventVariables.{event_below}
use Rattle.pop_log.proofs.EventNumbers.{row_is}
use Rattle.pop_log.proofs.PrintedLemmas.{same_record}
use Rattle.pop_log.proofs.ReadRecords.{may_fits}

-- what stands behind the number of an event
event_variables : (names : Names) (i : Instance) (e : Event) → IsInstance i → IsEvent i.family e
    → HasVariables names i.family (number_of names i.family e.unit) (variables e.cube)
event_variables names i e is event = has i.family is.fits event (event_below i e is.fits event)
  where
    has : (family : Family) → FamilyFits i.stacks family → IsEvent family e
        → NamesBelow e.cube (variables_of i.stacks)
        → HasVariables names family (number_of names family e.unit) (variables e.cube)
    has (Listed rows) fits (n, at) below =
        let row = row_is rows e.unit n e.cube at in
        (e.unit, e.cube, at ∙ ap (λ m. Some (m, e.cube)) (sym row.0), refl)
    has (Cycles heads) fits (cycle, unit) below =
        let size = length-map e.cube (λ (q : ℕ × ℕ). q.0) in
        let some = cycle.cube.some in
        let count = fits.0 in (
          omega (arith, size, some),
          cycle.cube.rising,
          All-map (λ v. v < length heads) (λ (q : ℕ × ℕ). q.0) e.cube
              (λ k d within. let less = below k d within in omega (arith, less, count)),
          ap (name_of names) unit,
        )

-- what holds of each second part of pairs
seconds_all : (zs : List (ℕ × ℕ)) → All (λ n. n < 2 ^ 32) (map (λ q. q.1) zs) → All (λ q. q.1 < 2 ^ 32) zs
seconds_all zs all k d within =
    let size = length-map zs (λ (q : ℕ × ℕ). q.1) in
    subst (λ n. n < 2 ^ 32) (get_or-map (λ (q : ℕ × ℕ). q.1) zs k d 0 within) (all k 0 (omega (arith, size, within)))

-- a legal record may be printed
legal_may : (names : Names) (i : Instance) (c : List ℕ) (r : LogRecord) → IsInstance i → IsLegalAt i c r
    → MayBePrinted names i.family (printed names i.family r)
legal_may names i c r is legal =
    let e : Cube = r.event.cube in
    let one = length-map (variables e) (name_of names) in
    let two = length-map e (λ (q : ℕ × ℕ). q.0) in
    let three = length-map e (λ (q : ℕ × ℕ). cursor c q.0) in
    let four = ap length legal.entries in
    let even : length r.entries ≡ length (map (name_of names) (variables e)) = omega (arith, one, two, three, four) in
    let small : All (λ n. n < 2 ^ 32) (entries_at c e) =
    All-map (λ n. n < 2 ^ 32) (λ (q : ℕ × ℕ). cursor c q.0) e (λ k d within.
    let next = legal.poppable.next k d within in
    let high = is.table.heights (get_or e k d).0 in
    omega (arith, next, high)) in
    record {
      vs = variables e;
      variables_are = event_variables names i r.event is legal.event;
      names_are = firsts-zip (map (name_of names) (variables e)) r.entries even;
      entries_fit = seconds_all (zip (map (name_of names) (variables e)) r.entries)
          (subst (All (λ n. n < 2 ^ 32)) (sym (seconds-zip (map (name_of names) (variables e)) r.entries
          even ∙ legal.entries)) small);
    }

-- so may each record of a legal log
pub all_may : (names : Names) (i : Instance) (c : List ℕ) (log : List LogRecord) → IsInstance i → IsLegal i c log
    → AllByRecursion (MayBePrinted names i.family) (map (printed names i.family) log)
all_may names i c [] is legal = tt
all_may names i c (r ∷ log) is legal = (
  legal_may names i c r is legal.0,
  all_may names i (pop c r.event.cube) log is
      legal.1,
)

-- what may be printed has numbers of 32 bits, record by record
pub all_fit : (names : Names) (i : Instance) (ps : List Printed) → IsInstance i → NumbersFit i.family
    → AllByRecursion (MayBePrinted names i.family) ps
    → AllByRecursion FitsWords ps
all_fit names i [] is numbers may = tt
all_fit names i (p ∷ ps) is numbers may = (may_fits names i is numbers p may.0, all_fit names i ps is numbers may.1)

-- layers of a log that is layered as it stands are from 1 to the number of its records
pub layers_small : (n : ℕ) (before placed : List Placed) → ((q : Placed) → Contains before q → q.1 ≤ n)
    → AreInLayers before placed → AllByRecursion (λ p. (0 < p.1) × (p.1 ≤ n + length placed)) placed
layers_small n before [] few are = tt
layers_small n before (p ∷ placed) few are =
    let here : (0 < p.1) × (p.1 ≤ n + 1) = elim are.0.layer.reached [
      | inl one ↦ (omega (arith, one), omega (arith, one))
      | inr (q, z, among, depend, next) ↦ let low = few (q, z) among in (omega (arith, next), omega (arith, next, low))
    ] in
    let rest = layers_small (n + 1) (before ++ p ∷ []) placed
    (λ q among. elim (Contains-push_cases before p q among) [
      | inl old ↦ let low = few q old in omega (arith, low)
      | inr same ↦ let equal : p.1 ≡ q.1 = ap (λ (x : Placed). x.1) same in let low = here.1 in omega (arith, low, equal)
    ]) are.1 in
    let sum : n + 1 + length placed ≡ n + length (p ∷ placed) = omega arith in (
      (here.0, (let low = here.1 in omega (arith, low))),
      subst (λ m. AllByRecursion (λ (q : Placed). (0 < q.1) × (q.1 ≤ m)) placed) sum rest,
    )

-- records that may be printed may be written with such layers
all_written : (names : Names) (family : Family) (placed : List Placed) (m : ℕ) → m < 2 ^ 64
    → AllByRecursion (λ p. (0 < p.1) × (p.1 ≤ m)) placed
    → AllByRecursion (MayBePrinted names family) (map (printed names family) (map (λ p. p.0) placed))
    → AllByRecursion (MayBeWritten names family Layered) (map (written names family) placed)
all_written names family [] m small layers may = tt
all_written names family (p ∷ placed) m small layers may = (
  record { layer = (layers.0.0, (let low = layers.0.1 in omega (arith, low, small))); record_is = may.0 },
  all_written names family placed m small layers.1 may.1,
)

-- so may those of a legal log that is layered as it stands
pub placed_may : (names : Names) (i : Instance) (c : List ℕ) (placed : List Placed) → IsInstance i
    → IsLegal i c (map (λ p. p.0) placed) → AreInLayers [] placed → length placed < 2 ^ 64
    → AllByRecursion (MayBeWritten names i.family Layered) (map (written names i.family) placed)
placed_may names i c placed is legal layered few =
    let count : 0 + length placed < 2 ^ 64 = omega (arith, few) in
    all_written names i.family placed (0 + length placed) count
    (layers_small 0 [] placed (λ q (k, within, at). absurd (omega (arith, within))) layered)
    (all_may names i c (map (λ (p : Placed). p.0) placed) is legal)

-- the record behind a front of a legal log is legal there
pub next_legal : (names : Names) (i : Instance) (c : List ℕ) (front log : List LogRecord) (p : Printed)
    (rest : List Printed) → IsInstance i → IsLegal i c front → IsLegal i c log
    → map (printed names i.family) log ≡ map (printed names i.family) front ++ p ∷ rest
    → ((r : LogRecord) → IsLegalAt i (replay c front) r → printed names i.family r ≡ p → ⊥) → ⊥
next_legal names i c [] [] p rest is legal legal' same none = cc
next_legal names i c [] (r ∷ log) p rest is legal legal' same none = none r legal'.0 (cc)
next_legal names i c (q ∷ front) [] p rest is legal legal' same none = cc
next_legal names i c (q ∷ front) (r ∷ log) p rest is legal legal' same none =
    let first : printed names i.family r ≡ printed names i.family q = cc in
    let later : map (printed names i.family) log ≡ map (printed names i.family) front ++ p ∷ rest = cc in
    let one : r ≡ q = same_record names i is c r q legal'.0 legal.0 first in
    next_legal names i (pop c q.event.cube) front log p rest is legal.1
    (subst (λ (x : LogRecord). IsLegal i (pop c x.event.cube) log) one legal'.1) later none
