use Rattle.std.proofs.Common.{◌<◌, ◌+◌, ℕ, length, get_or, sym, subst, arith}
use Rattle.pop_model.specs.Stacks.{height_of}
use Rattle.prs_rounds.proofs.values.read_piece.Goals as goal

pub get-requires : goal.get-requires
get-requires c = record {
  known = c.requires.known (c.args.start + c.loop-k.k) 0 (omega (arith, c.loop-k-test.true, c.requires.room));
}

pub entry-requires : goal.entry-requires
entry-requires c =
    let v : ℕ = get_or c.args.variables.now (c.args.start + c.loop-k.k) 0 in
    let below : v < length c.args.at.cursors.now = c.requires.known (c.args.start + c.loop-k.k) 0 (omega (
      arith,
      c.loop-k-test.true,
      c.requires.room,
    )) in
    record {
      belongs = c.loop-k.invariant.belongs;
      variable = omega (arith, below, c.requires.count);
      place = subst (λ k. k < height_of c.args.at.stacks.now v) (sym c.get.ensures)
          (c.requires.within v (omega (arith, below, c.requires.count)));
    }
