use Rattle.std.proofs.Common.{◌≡◌, ◌*◌, ◌/◌, [], length, ap, sym, subst, ◌∙◌}
use Rattle.std.proofs.lemmas.List.FromFn.{length-map-range_with_len}
use Rattle.graph_read.specs.Graphs.{GraphOf}
use Rattle.graph_read.specs.Ends.{edge_in, graph_in}
use Rattle.array_calls.specs.Trees.{FitFrom, FitsWanted, WantsStops}
use Rattle.array_calls.specs.Values.{AreSinksUnder, LeavesValues, value_arrays}
use Rattle.array_calls.proofs.orienting.orientations.Goals as goal

pub put_orientations-requires-clause-directions : goal.put_orientations-requires-clause-directions
put_orientations-requires-clause-directions c =
    let ends = c.args.asked.ends.now in
    let size = ap (λ (g : GraphOf). length g.edges) c.in_ok-graph.ensures.graph
    ∙ length-map-range_with_len (edge_in ends []) 0 (length ends / 2) in
    subst (λ m. length c.args.directions.now ≡ length c.args.counts.now / 2 * m) (sym size) c.requires.directions

pub put_orientations-requires-clause-useds : goal.put_orientations-requires-clause-useds
put_orientations-requires-clause-useds c =
    let ends = c.args.asked.ends.now in
    let size = ap (λ (g : GraphOf). length g.edges) c.in_ok-graph.ensures.graph
    ∙ length-map-range_with_len (edge_in ends []) 0 (length ends / 2) in
    subst (λ m. FitsWanted m (length c.args.counts.now / 2) c.args.useds.now) (sym size) c.requires.useds

pub put_orientations-requires-clause-from : goal.put_orientations-requires-clause-from
put_orientations-requires-clause-from c =
    let ends = c.args.asked.ends.now in
    let size = ap (λ (g : GraphOf). length g.edges) c.in_ok-graph.ensures.graph
    ∙ length-map-range_with_len (edge_in ends []) 0 (length ends / 2) in
    subst (λ m. FitFrom m c.args.draw.height c.args.draw.from.now) (sym size) c.requires.from

pub put_orientations-requires-clause-stops : goal.put_orientations-requires-clause-stops
put_orientations-requires-clause-stops c =
    let ends = c.args.asked.ends.now in
    let size = ap (λ (g : GraphOf). length g.edges) c.in_ok-graph.ensures.graph
    ∙ length-map-range_with_len (edge_in ends []) 0 (length ends / 2) in
    subst (λ m. WantsStops c.args.draw.budget m (length c.args.counts.now / 2) c.args.useds.now) (sym size)
    c.requires.stops

pub returns-clause-leaves : goal.returns-clause-leaves
returns-clause-leaves c =
    let a = c.args.asked in
    let d = c.args.draw in
    let i = c.in_ok-instance.instance in
    let g : c.in_ok-graph.graph ≡ graph_in a.vertices a.ends.now [] = c.in_ok-graph.ensures.graph in
    let n = c.put_orientations.new in
    let old = value_arrays c.args.directions.now c.args.useds.now c.args.counts.now in
    let new = value_arrays n.directions n.useds n.counts in
    let count = length c.args.counts.now / 2 in
    record {
      instance = i;
      sinks = subst (λ (f : GraphOf). AreSinksUnder d.key d.height f i) g c.in_ok-instance.ensures.made;
      rows = subst (LeavesValues i (length (graph_in a.vertices a.ends.now []).edges) d.first d.from.now d.budget count
          old new) (sym c.outcome_of.ensures.stopped)
          (subst (λ (f : GraphOf). LeavesValues i (length f.edges) d.first d.from.now d.budget count old new
          c.in_ok-stopped.stopped) g c.in_ok-stopped.ensures.leaves);
    }
