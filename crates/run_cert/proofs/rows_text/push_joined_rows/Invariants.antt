use Rattle.std.proofs.Common.{◌≡◌, ◌++◌, take, map}
use Rattle.std.specs.List.{join_with_byte}
use Rattle.run_cert.specs.Heads.{row_text}
use Rattle.run_cert.proofs.rows_text.push_joined_rows.Given as goal

abbrev pub invariant-loop-v : goal.invariant-loop-v
invariant-loop-v l = l.out ≡ l.fn.out ++ join_with_byte 59 (map row_text (take l.v l.rows))
