use Rattle.std.proofs.Common.{length, ◌≤◌}
use Rattle.pop_edge.specs.Numbers.{number_of}
use Rattle.pop_words.specs.Values.{comma_parts}
use Rattle.pop_words.proofs.Parts.{HasRead}
use Rattle.pop_words.proofs.value.row_in.Given as goal

-- the parts up to here are numbers, and there was room for them
abbrev pub invariant-loop-part : goal.invariant-loop-part
invariant-loop-part l = record {
  read : HasRead number_of (comma_parts l.word) (length l.yielded) l.row.items;
  fits : length l.row.items ≤ l.room;
}
