use Rattle.std.proofs.Common.{◌≡◌, ◌≤◌, length, vec_capacity}
use Rattle.std.specs.Slots.{slots_items}
use Rattle.claim_words.specs.Closing.{unsettled}
use Rattle.claim_words.proofs.closing.unsettled.Given as goal

-- those of the variables up to here that are not settled
abbrev pub invariant-loop-v : goal.invariant-loop-v
invariant-loop-v l = record {
  len : length l.unset.items ≤ l.v;
  room : l.count ≤ vec_capacity l.unset;
  are : l.unset.items ≡ unsettled (slots_items l.words.words) l.v;
}
