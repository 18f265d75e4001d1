use Rattle.std.proofs.Common.{◌+◌, length, subst, ap, ◌∙◌}
use Rattle.pop_print.specs.declared.facts.Facts.{Facts}
use Rattle.pop_print.specs.Ends.{AreFactsOf, IsOfPairs, IsOfTree}
use Rattle.pop_print.proofs.EndLemmas.{slots_known}
use Rattle.pop_print.proofs.sample.push_sample.Goals as goal

pub push_assignment-requires : goal.push_assignment-requires
push_assignment-requires c =
    let i = c.args.of.value in
    let facts : IsOfPairs c.in-Formula.count i =
    subst (λ (f : Facts). AreFactsOf f i) c.in-Formula.is c.requires.facts in
    c.requires.end.values ∙ facts.count

pub push_orientation-requires : goal.push_orientation-requires
push_orientation-requires c =
    let i = c.args.of.value in
    let facts : IsOfPairs (length c.in-Orient.graph.edges) i =
    subst (λ (f : Facts). AreFactsOf f i) c.in-Orient.is c.requires.facts in
    c.requires.end.values ∙ facts.count

pub push_tree-requires-clause-count : goal.push_tree-requires-clause-count
push_tree-requires-clause-count c =
    let i = c.args.of.value in
    let facts : IsOfTree c.in-Tree.graph c.in-Tree.root i =
    subst (λ (f : Facts). AreFactsOf f i) c.in-Tree.is c.requires.facts in
    ap (λ n. n + 1) c.requires.end.values ∙ facts.count

pub push_tree-requires-clause-slots : goal.push_tree-requires-clause-slots
push_tree-requires-clause-slots c =
    let i = c.args.of.value in
    let facts : IsOfTree c.in-Tree.graph c.in-Tree.root i =
    subst (λ (f : Facts). AreFactsOf f i) c.in-Tree.is c.requires.facts in
    slots_known i c.in-Tree.graph c.in-Tree.root c.args.end.now.values facts c.requires.end.values c.requires.end.within
