-- The records of a legal log name variables of the instance, and can be printed in their order.
use Rattle.std.proofs.Common.{◌≡◌, ℕ, ◌<◌, List, [], ◌∷◌, ◌++◌, map, flat_map, length, get_or, sym, ap, ap₂, subst, refl, ◌∙◌, arith, All}
use Rattle.std.proofs.lemmas.List.{length-map, get_or-map}
use Rattle.std.proofs.lemmas.List.Elements.{Contains-get_or}
use Rattle.pop_model.specs.Stacks.{variables_of}
use Rattle.pop_model.specs.Popping.{NamesBelow}
use Rattle.pop_model.specs.Families.{Family}
use Rattle.pop_model.specs.Instances.{Instance, IsInstance}
use Rattle.pop_model.specs.Logs.{LogRecord, IsLegal}
use Rattle.pop_model.proofs.FirstRun.{legal_event}
use Rattle.pop_log.specs.declared.names.Names.{Names}
use Rattle.pop_log.specs.declared.placed_record.PlacedRecord.{PlacedRecord}
use Rattle.pop_log.specs.PlacedRecords.{placed_of}
use Rattle.pop_log.specs.Layers.{Placed}
use Rattle.pop_log.specs.LayeredTexts.{layered_head, layered_line, written, placed_text}
use Rattle.pop_log.specs.Printable.{IsPrintable}
use Rattle.confluence_core.proofs.EventVariables.{event_below}
use Rattle.pop_log.proofs.PrintableLemmas.{log_printable}

-- each record names variables of the instance
pub records_below : (i : Instance) → IsInstance i → (c : List ℕ) (log : List LogRecord) → IsLegal i c log
    → All (λ r. NamesBelow r.event.cube (variables_of i.stacks)) log
records_below i is c log legal k d within =
    let r = get_or log k d in
    event_below i r.event is.fits (legal_event i c log legal r (Contains-get_or log k d within))

-- the events of records in memory, where they are a legal log, can be printed
pub placed_printable : (i : Instance) → IsInstance i → (c : List ℕ) (items : List PlacedRecord)
    → IsLegal i c (map (λ p. p.0) (map placed_of items)) → All (λ p. IsPrintable i.family p.popped.now.event) items
placed_printable i is c items legal k d within =
    let records : List LogRecord = map (λ p. p.0) (map placed_of items) in
    let size : length records ≡ length items =
    length-map (map placed_of items) (λ (p : Placed). p.0) ∙ length-map items placed_of in
    let inside : k < length (map placed_of items) = omega (arith, within, length-map items placed_of) in
    let e : get_or records k d.popped.now ≡ (get_or items k d).popped.now =
    get_or-map (λ (p : Placed). p.0) (map placed_of items) k (placed_of d) d.popped.now inside
    ∙ ap (λ (p : Placed). p.0) (get_or-map placed_of items k d (placed_of d) within) in
    subst (λ (r : LogRecord). IsPrintable i.family r.event) e
    (log_printable i is c records legal k d.popped.now (omega (arith, within, size)))

-- the lines of records as they stand in memory
lines_of : (names : Names) (family : Family) (items : List PlacedRecord)
    → flat_map (λ p. layered_line (written names family (placed_of p))) items
    ≡ flat_map layered_line (map (written names family) (map placed_of items))
lines_of names family [] = refl
lines_of names family (p ∷ items) =
    ap (λ l. layered_line (written names family (placed_of p)) ++ l) (lines_of names family items)

-- with the first line they are the text of these records with their layers
pub text_is_placed : (names : Names) (i : Instance) (items : List PlacedRecord) (text : List ℕ)
    → text ≡ layered_head (length items) ++ flat_map (λ p. layered_line (written names i.family (placed_of p))) items
    → text ≡ placed_text names i (map placed_of items)
text_is_placed names i items text is =
    let size : length (map (written names i.family) (map placed_of items)) ≡ length items =
    length-map (map placed_of items) (written names i.family) ∙ length-map items placed_of in
    is ∙ ap₂ (λ (n : ℕ) (l : List ℕ). layered_head n ++ l) (sym size) (lines_of names i.family items)
