use Rattle.std.proofs.Common.{length}
use Rattle.pop_stacks.specs.Rows.{lists_of}
use Rattle.pop_words.proofs.RowParts.{HasRows}
use Rattle.pop_words.proofs.value.rows_in.Given as goal

-- the parts up to here are rows, within the limits
abbrev pub invariant-loop-part : goal.invariant-loop-part
invariant-loop-part l = HasRows l.word (length l.yielded) (lists_of l.rows.items) l.room
