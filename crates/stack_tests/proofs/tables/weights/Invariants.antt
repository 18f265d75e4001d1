use Rattle.std.proofs.Common.{◌<◌, ◌^◌, length, All}
use Rattle.pop_stacks.specs.Rows.{lists_of}
use Rattle.stack_tests.proofs.tables.weights.Given as goal

-- each row so far is short and has numbers, none of which is 0
abbrev pub invariant-loop-row : goal.invariant-loop-row
invariant-loop-row g l = record {
  short : All (λ row. length row < 2 ^ 31) (lists_of l.rows.items);
  some : All (λ row. 0 < length row) (lists_of l.rows.items);
  positive : All (λ row. All (λ weight. 0 < weight) row) (lists_of l.rows.items);
}
