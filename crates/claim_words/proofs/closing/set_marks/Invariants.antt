use Rattle.std.proofs.Common.{◌≡◌, ◌≤◌, length, vec_capacity}
use Rattle.std.specs.Slots.{slots_items}
use Rattle.claim_words.specs.Closing.{set_marks}
use Rattle.claim_words.proofs.closing.set_marks.Given as goal

-- those of the units up to here that are marked
abbrev pub invariant-loop-unit : goal.invariant-loop-unit
invariant-loop-unit l = record {
  len : length l.marked.items ≤ l.unit;
  room : l.marks ≤ vec_capacity l.marked;
  are : l.marked.items ≡ set_marks (slots_items l.words.words) l.count l.unit;
}
