use Rattle.std.proofs.Common.{◌+◌, ◌*◌, ◌<◌, ◌≤◌, ◌^◌, length, ◌∙◌, arith}
use Rattle.pop_model.specs.Names.{vertex_of}
use Rattle.graph_read.specs.Grids.{grid_of}
use Rattle.graph_read.specs.Incidence.{edges_at}
use Rattle.graph_read.proofs.GridGraphs.{grid_is_graph}
use Rattle.pop_print.proofs.Degrees.{degrees_below}
use Rattle.pop_print.proofs.SlotSums.{sum_fits, sum_small, terms_all, terms_more}
use Rattle.pop_print.proofs.summary.slot_sum.Goals as goal

-- the sum with the term of the variable is small still
small : (c : goal.After-from-in-loop-v) → c.loop-v.total + c.from.result * (c.from-in-loop-v.result + 1)
    ≤ 2 ^ 22 * degrees_below (grid_of c.args.side) (c.loop-v.v + 1)
small c =
    let slots = c.requires.slots c.loop-v.v (omega arith) in
    let slot : c.from-in-loop-v.result < length (edges_at (grid_of c.args.side) (vertex_of 1 c.loop-v.v)) = omega arith in
    sum_small (grid_of c.args.side) c.loop-v.v c.from.result c.from-in-loop-v.result c.loop-v.total
    (grid_is_graph c.args.side c.requires.side).vertices_fit (omega arith) (c.from.ensures ∙ c.vertex_of.ensures) slot
    c.loop-v.invariant.small

pub overflow_add-total-in-loop-v : goal.overflow_add-total-in-loop-v
overflow_add-total-in-loop-v c =
    omega (
      arith,
      sum_fits (grid_of c.args.side) (c.loop-v.v + 1) (c.loop-v.total + c.from.result * (c.from-in-loop-v.result + 1))
          (grid_is_graph c.args.side c.requires.side).edges_fit (small c),
    )

pub loop-v-preserved : goal.loop-v-preserved
loop-v-preserved c =
    record {
      is = terms_more c.args.values.now c.loop-v.v c.from.result c.from-in-loop-v.result
          c.loop-v.total (omega arith) (c.from.ensures ∙ c.vertex_of.ensures)
          (c.from-in-loop-v.ensures ∙ c.get.ensures) c.loop-v.invariant.is;
      small = small c;
    }

pub returns : goal.returns
returns c =
    terms_all c.args.values.now c.loop-v.v c.loop-v.total (omega arith) c.loop-v.invariant.is
