use Rattle.std.proofs.Common.{◌≡◌, [], ℕ, map, zip, ap, length, ◌∙◌, rules, is_lt}
use Rattle.std.specs.List.Sorted.{IsSortedBy, IsStableBy}
use Rattle.std.proofs.lemmas.List.Sorted.{answers_always}
use Rattle.pop_log.specs.Layered.{placed_cmp}
use Rattle.pop_log.specs.declared.placed_record.PlacedRecord.{PlacedRecord}
use Rattle.pop_log.specs.PlacedRecords.{placed_of}
use Rattle.pop_log.proofs.PlacedRecordsLemmas.{length-layers, are_sorted}
use Rattle.pop_log.proofs.sorting.sorted.Goals as goal

pub with_layers-requires : goal.with_layers-requires
with_layers-requires c =
    let log = c.args.log.now in
    record {
      each = ap length c.deref.ensures.value ∙ length-layers [] log c.in_ok-layers.layers.items c.in_ok-layers.ensures;
    }

pub returns : goal.returns
returns c =
    let log = c.args.log.now in
    let ys = c.in_ok-layers.layers.items in
    let items = c.in_ok-placed.placed.items in
    let sorted = c.sort_by_key.new.self.items in
    let key : PlacedRecord → ℕ × ℕ = λ p. (p.layer, p.popped.now.event.unit) in
    let up : IsSortedBy (λ (x y : PlacedRecord). is_lt (placed_cmp (placed_of x) (placed_of y))) sorted =
    c.in_ok-sort_by_key.ensures.sorted key (answers_always _ _ _ (λ f a r g h. search rules)) in
    let stable : IsStableBy (λ (x y : PlacedRecord). is_lt (placed_cmp (placed_of x) (placed_of y))) items sorted =
    c.sort_by_key.ensures.stable key (answers_always _ _ _ (λ f a r g h. search rules)) in
    let same : map placed_of items ≡ zip log ys =
    c.in_ok-placed.ensures ∙ ap (zip log) c.deref.ensures.value in
    are_sorted log ys items sorted c.in_ok-layers.ensures same c.sort_by_key.ensures.permutation up stable
