use Rattle.std.proofs.Common.{◌≡◌, ◌≤◌, ◌∙◌, All, ap, subst, replicate, rules}
use Rattle.pop_rows.specs.Fronts.{fronts_of}
use Rattle.pop_rows.proofs.FrontsLemmas.{fronts_of_ones}
use Rattle.pop_rows.proofs.fronts.Fronts.ones.Goals as goal

pub returns : goal.returns
returns c =
    let ones : c.in_ok-list.list.items ≡ replicate c.greatest.result 1 = search rules in
    ap (fronts_of c.args.lengths.items) ones
    ∙ fronts_of_ones c.args.lengths.items c.greatest.result
    (subst (All (λ n. n ≤ c.greatest.result)) c.deref.ensures.value c.greatest.ensures)
