use Rattle.std.proofs.Common.{[], arith}
use Rattle.std.proofs.lemmas.List.{get_or_default}
use Rattle.run_tests.proofs.extremal.are_known.Goals as goal

pub returns : goal.returns
returns c = λ k d within.
    rw (get_or_default c.args.events.now k d (0, []) within)
    (c.loop-place.invariant k (omega (arith, c.count-place-end.ensures.count)))
