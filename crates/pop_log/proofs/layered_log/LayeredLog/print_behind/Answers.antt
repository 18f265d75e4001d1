use Rattle.std.proofs.Common.{◌≡◌, ◌++◌, ℕ, List, All, flat_map, length, map, sym, ap, subst, ◌∙◌, append_assoc}
use Rattle.std.proofs.lemmas.Result.{IfOk-weaker}
use Rattle.pop_model.specs.Families.{Family}
use Rattle.pop_model.specs.Logs.{IsLegal}
use Rattle.pop_model.specs.Runs.{start_of}
use Rattle.pop_instance.specs.Family.{family_of}
use Rattle.pop_log.specs.declared.placed_record.PlacedRecord.{PlacedRecord}
use Rattle.pop_log.specs.Layers.{Placed}
use Rattle.pop_log.specs.LayeredTexts.{layered_head, layered_line, written, placed_text}
use Rattle.pop_log.specs.PlacedRecords.{placed_of}
use Rattle.pop_log.specs.Printable.{IsPrintable}
use Rattle.pop_log.proofs.LayeredPrinting.{placed_printable, text_is_placed}
use Rattle.pop_log.proofs.layered_log.LayeredLog.print_behind.Goals as goal

pub text_behind-requires : goal.text_behind-requires
text_behind-requires c =
    let i = c.args.instance.now in
    let items : List PlacedRecord = c.self.inside.placed.items in
    let legal : IsLegal i (start_of i) (map (λ p. p.0) (map placed_of items)) =
    subst (λ (l : List Placed). IsLegal i (start_of i) (map (λ p. p.0) l)) (sym c.self.view_is) c.requires in
    subst (λ (l : List PlacedRecord). All (λ (p : PlacedRecord). IsPrintable (family_of c.family.result.now)
    p.popped.now.event) l) (sym c.deref.ensures.value)
    (subst (λ (family : Family). All (λ (p : PlacedRecord). IsPrintable family p.popped.now.event) items)
    (sym c.family.ensures) (placed_printable i c.units-units.ensures.instance (start_of i) items legal))

pub returns : goal.returns
returns c =
    let i = c.args.instance.now in
    let names = c.args.names.now in
    let before : List ℕ = c.args.text.items in
    let items : List PlacedRecord = c.self.inside.placed.items in
    let lines : Family → List PlacedRecord → List ℕ = λ family l.
    flat_map (λ p. layered_line (written names family (placed_of p))) l in
    let text : Family → List PlacedRecord → List ℕ = λ family l. layered_head (length l) ++ lines family l in
    let shown : List PlacedRecord = c.deref.result.now in
    let family : Family = family_of c.family.result.now in
    let whole : text family shown ≡ placed_text names i c.args.self.now =
    text_is_placed names i items (text family shown)
    (ap (text family) c.deref.ensures.value ∙ ap (λ f. text f items) c.family.ensures)
    ∙ ap (placed_text names i) c.self.view_is in
    IfOk-weaker c.text_behind.result (λ bytes. bytes.items ≡ before ++ layered_head (length shown) ++ lines family shown)
    (λ bytes. bytes.items ≡ before ++ placed_text names i c.args.self.now)
    (λ bytes is. is ∙ append_assoc before (layered_head (length shown)) (lines family shown)
    ∙ ap (λ l. before ++ l) whole)
    c.text_behind.ensures
