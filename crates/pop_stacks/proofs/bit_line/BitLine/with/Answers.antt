use Rattle.std.proofs.Common.{arith}
use Rattle.pop_stacks.proofs.bit_line.BitLine.with.Goals as goal

pub returns-clause-values : goal.returns-clause-values
returns-clause-values c = record {
  first = c.behind-bits.ensures.first;
  more = λ i within.
      let below = c.requires.below i within in
      omega (arith, c.behind-bits.ensures.more i (omega arith), c.plane-more.ensures i within, below);
}
