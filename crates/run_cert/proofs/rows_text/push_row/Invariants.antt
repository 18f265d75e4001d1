use Rattle.std.proofs.Common.{◌≡◌, ◌++◌, take, map, decimal}
use Rattle.std.specs.List.{join_with_byte}
use Rattle.run_cert.proofs.rows_text.push_row.Given as goal

abbrev pub invariant-loop-k : goal.invariant-loop-k
invariant-loop-k l = l.out ≡ l.fn.out ++ join_with_byte 44 (map decimal (take l.k l.row))
