use Rattle.std.proofs.Common.{◌++◌, ◌<◌, ◌≡◌, ◌-◌, length, get_or, refl, sym, ap, ◌∙◌, arith}
use Rattle.std.specs.List.{enumerate_from}
use Rattle.std.proofs.lemmas.List.{get_or_default}
use Rattle.std.proofs.lemmas.List.FromFn.{length-enumerate_from}
use Rattle.pop_model.specs.Names.{vertex_of}
use Rattle.graph_read.specs.Incidence.{edges_at}
use Rattle.graph_read.proofs.KnownEdges.{edges_few, edges_known}
use Rattle.pop_print.specs.Output.{vertex_line}
use Rattle.pop_text.proofs.PrintedMembers.{member_more, all_members}
use Rattle.pop_print.proofs.OutputLemmas.{numbered_at}
use Rattle.pop_print.proofs.TreePlaces.{place_found, place_line, place_within}
use Rattle.pop_print.proofs.tree.push_tree.Goals as goal
use Rattle.pop_print.proofs.tree.push_tree.Goals.{After-index}

pub places_of-requires-clause-small : goal.places_of-requires-clause-small
places_of-requires-clause-small c = λ v below.
    let g = c.args.graph.now in
    let slots = c.requires.slots v below in
    omega (arith, slots, edges_few g (vertex_of c.args.root v), c.vertices.ensures.graph.edges_fit)

pub index-requires : goal.index-requires
index-requires c =
    let within = place_within c.args.graph.now.vertices c.args.root c.loop-v.v c.vertex_of-vertex.result
    c.in_ok-edges.edges.items c.requires.root (omega (arith, c.loop-v-test.true, c.vertices-v-end.ensures.count))
    c.vertex_of-vertex.ensures c.in_ok-edges.ensures.count in
    omega (arith, within, c.in_ok-edges.edges.ok.0)

-- the edge that was found there is the one of the variable's slot
found : (c : After-index) → c.index.result.now
    ≡ get_or (edges_at c.args.graph.now (vertex_of c.args.root c.loop-v.v)) (get_or c.args.values.now c.loop-v.v 0) 0
found c =
    let values = c.args.values.now in
    let below : c.loop-v.v < length values =
    omega (arith, c.loop-v-test.true, c.vertices-v-end.ensures.count, c.requires.count) in
    let w = c.vertex_of-vertex.result in
    let edges = c.in_ok-edges.edges.items in
    let within = place_within c.args.graph.now.vertices c.args.root c.loop-v.v w edges c.requires.root
    (omega (arith, below, c.requires.count)) c.vertex_of-vertex.ensures c.in_ok-edges.ensures.count in
    place_found c.args.graph.now c.args.root c.loop-v.v w (get_or values c.loop-v.v 0) c.index.result.now values
    c.in_ok-places.places.items edges c.requires.root below c.requires.count c.vertex_of-vertex.ensures refl
    (c.requires.slots c.loop-v.v below) c.in_ok-places.ensures c.in_ok-edges.ensures
    (c.index.ensures
    ∙ sym (get_or_default edges (w - 1) 0 c.index.result.now within))

pub push_along-requires : goal.push_along-requires
push_along-requires c =
    let g = c.args.graph.now in
    let v = c.loop-v.v in
    let below : v < length c.args.values.now =
    omega (arith, c.loop-v-test.true, c.vertices-v-end.ensures.count, c.requires.count) in
    omega (
      arith,
      found (goal.at.push_along-requires c).After-index,
      edges_known g (vertex_of c.args.root v) (get_or c.args.values.now v 0) 0 (c.requires.slots v below),
    )

pub loop-v-preserved : goal.loop-v-preserved
loop-v-preserved c =
    let g = c.args.graph.now in
    let values = c.args.values.now in
    let v = c.loop-v.v in
    let x = get_or values v 0 in
    let size = length-enumerate_from 0 values in
    let below : v < length values =
    omega (arith, c.loop-v-test.true, c.vertices-v-end.ensures.count, c.requires.count) in
    member_more (vertex_line g c.args.root) (enumerate_from 0 values) v (v, x) c.args.out.now c.loop-v.out
    c.push_along.new.out (omega arith) (numbered_at values v x below (get_or_default values v 0 x below))
    c.loop-v.invariant
    (c.in_ok-push_along.ensures
    ∙ ap (λ line. c.loop-v.out ++ line)
    (place_line g c.args.root v c.vertex_of-vertex.result x c.index.result.now c.vertex_of-vertex.ensures
    (found (goal.at.loop-v-preserved c).After-index)))

pub returns : goal.returns
returns c =
    let values = c.args.values.now in
    let size = length-enumerate_from 0 values in
    all_members (vertex_line c.args.graph.now c.args.root) (enumerate_from 0 values) c.loop-v.v
    c.args.out.now c.loop-v.out (omega arith) c.loop-v.invariant
