use Rattle.std.proofs.Common.{sym, ap, subst, ◌∙◌, arith}
use Rattle.std.proofs.lemmas.List.{take_all}
use Rattle.pop_print.specs.Made.{greatest, IsGreatest}
use Rattle.pop_print.proofs.GreatestLemmas.{greatest_more, greatest_is}
use Rattle.pop_print.proofs.counts.greatest_of.Goals as goal

pub loop-v-preserved : goal.loop-v-preserved
loop-v-preserved c =
    c.max-most.ensures
    ∙ greatest_more c.args.cursors.now c.loop-v.v c.loop-v.most c.get.result (omega arith) c.loop-v.invariant
    c.get.ensures

pub returns-clause-greatest : goal.returns-clause-greatest
returns-clause-greatest c =
    subst (IsGreatest c.args.cursors.now)
    (sym (c.loop-v.invariant ∙ ap greatest (take_all c.loop-v.v c.args.cursors.now (omega arith))))
    (greatest_is c.args.cursors.now)
