use Rattle.std.proofs.Common.{◌<◌, [], length, refl, sym, ap, subst, ◌∙◌, arith}
use Rattle.std.proofs.lemmas.List.{get_or_read}
use Rattle.graph_read.specs.Graphs.{IsGraph}
use Rattle.graph_read.proofs.ReachedVertices.{reaches_all, reaches_more, reaches_none}
use Rattle.graph_read.proofs.search.reach.Goals as goal

pub meet-requires-clause-last : goal.meet-requires-clause-last
meet-requires-clause-last c =
    let count = sym (c.vertices.ensures.count ∙ ap (λ f. f.vertices) c.graph.ensures) in
    let search = c.in_ok-search.ensures c.args.ends.now count c.args.root in
    omega (arith, search.size, c.requires.root.last)

pub loop-at-init : goal.loop-at-init
loop-at-init c =
    let count = sym (c.vertices.ensures.count ∙ ap (λ f. f.vertices) c.graph.ensures) in
    let search = c.in_ok-search.ensures c.args.ends.now count c.args.root in
    reaches_none c.args.ends.now c.args.root c.meet.new.self
    (c.in_ok-meet.ensures.search c.args.ends.now c.args.root search ([], refl)) c.in_ok-meet.ensures.here

pub loop-at-preserved : goal.loop-at-preserved
loop-at-preserved c =
    let below : c.loop-at.at < length c.loop-at.search.found.items =
    omega (arith, c.loop-at-test.true, c.len.ensures) in
    reaches_more c.args.ends.now c.args.root c.loop-at.at c.index-vertex.result.now c.loop-at.search c.visit.new.search
    c.loop-at.invariant below
    (get_or_read c.loop-at.search.found.items c.loop-at.at c.index-vertex.result.now below c.index-vertex.ensures 0)
    c.in_ok-visit.ensures.goes c.in_ok-visit.ensures.visited c.in_ok-visit.ensures.search

pub returns : goal.returns
returns c =
    reaches_all c.args.ends.now c.args.root c.loop-at.at c.loop-at.search
    (subst IsGraph c.graph.ensures c.vertices.ensures.graph) c.requires.root
    c.loop-at.invariant (omega (arith, c.loop-at-test.false, c.len.ensures))
