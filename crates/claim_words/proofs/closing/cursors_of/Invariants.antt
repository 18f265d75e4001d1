use Rattle.std.proofs.Common.{◌≡◌, ◌<◌, ◌≤◌, ℕ, length, get_or, vec_capacity}
use Rattle.std.specs.Slots.{slots_items}
use Rattle.claim_words.specs.Words.{word_of, cursor_in}
use Rattle.claim_words.proofs.closing.cursors_of.Given as goal

-- the cursors of the variables up to here
abbrev pub invariant-loop-v : goal.invariant-loop-v
invariant-loop-v l = record {
  len : length l.cursors.items ≡ l.v;
  room : l.count ≤ vec_capacity l.cursors;
  each : (u : ℕ) → u < l.v → get_or l.cursors.items u 0 ≡ cursor_in (get_or (slots_items l.words.words) (word_of u) 0);
}
