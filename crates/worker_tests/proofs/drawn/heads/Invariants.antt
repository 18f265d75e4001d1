use Rattle.std.proofs.Common.{◌≡◌, ◌<◌, ◌^◌, length, All}
use Rattle.pop_instance.specs.Arrows.{heads_of}
use Rattle.worker_tests.proofs.drawn.heads.Given as goal

-- one row for each variable before here, none of them long
abbrev pub invariant-loop-v : goal.invariant-loop-v
invariant-loop-v g l = record {
  rows : length l.heads.items ≡ l.v;
  short : All (λ row. length row < 2 ^ 31) (heads_of l.heads.items);
}
