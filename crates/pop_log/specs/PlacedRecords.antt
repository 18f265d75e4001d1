-- Records with their layers, as they are stored in memory.
use Rattle.pop_log.specs.declared.placed_record.PlacedRecord.{PlacedRecord}
use Rattle.pop_log.specs.Layers.{Placed}

-- the record with its layer
abbrev pub placed_of : PlacedRecord → Placed
placed_of p = (p.popped.now, p.layer)
