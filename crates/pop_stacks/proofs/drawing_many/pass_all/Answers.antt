use Rattle.std.proofs.Common.{◌+◌, sym, subst, arith, rules, get_or}
use Rattle.std.proofs.lemmas.List.{get_or-replicate, length-replicate}
use Rattle.pop_stacks.proofs.ManyDraws.{IsPassed, none_passed, pass_turn}
use Rattle.pop_stacks.proofs.drawing_many.pass_all.Goals as goal

pub loop-j-init : goal.loop-j-init
loop-j-init g c = record {
  passed = λ i below.
      none_passed c.args.sums.now (get_or c.args.numbers.now i 0) _ (get_or-replicate g.row.N i 0 0 below);
  size = length-replicate g.row.N 0;
}

pub loop-j-preserved : goal.loop-j-preserved
loop-j-preserved g c =
    let sums = c.args.sums.now in
    let j = c.loop-j.j in
    record {
      passed = λ i below.
          let m = get_or c.args.numbers.now i 0 in
          subst (IsPassed sums (j + 1) m) (sym (c.pass-places.ensures i below))
          (pass_turn sums j m (get_or c.loop-j.places i 0) c.requires.rising (omega arith)
          (c.loop-j.invariant.passed i below));
      size = omega arith;
    }

pub pass-places-requires : goal.pass-places-requires
pass-places-requires g c = (
  search rules,
  (
    search rules,
    λ i below.
        let passed = c.loop-j.invariant.passed i below in
        let reached = passed.reached in
        omega (arith, reached, c.loop-j-test.true, c.requires.small),
  ),
)
