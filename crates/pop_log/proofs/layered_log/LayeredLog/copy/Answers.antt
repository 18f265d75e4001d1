use Rattle.std.proofs.Common.{List, map, ap, ◌∙◌}
use Rattle.pop_model.specs.Logs.{LogRecord}
use Rattle.pop_log.specs.declared.placed_record.PlacedRecord.{PlacedRecord}
use Rattle.pop_log.specs.Layers.{Placed}
use Rattle.pop_log.proofs.PlacedRecordsLemmas.{records_alone}
use Rattle.pop_log.proofs.layered_log.LayeredLog.copy.Goals as goal

pub returns : goal.returns
returns c =
    let alone : List PlacedRecord → List LogRecord = λ items. map (λ p. p.popped.now) items in
    c.of.ensures ∙ c.in_ok-copies.ensures ∙ ap alone c.deref.ensures.value
    ∙ records_alone c.self.inside.placed.items ∙ ap (map (λ (p : Placed). p.0)) c.self.view_is
