use Rattle.std.proofs.Common.{refl, subst}
use Rattle.graph_read.specs.Grids.{grid_of}
use Rattle.pop_print.specs.declared.facts.Facts.TheVariants.{Made as MadeFacts}
use Rattle.job_subjects.specs.StackFaults.{RefusesStacks}
use Rattle.job_subjects.specs.Refused.{RefusesGrid}
use Rattle.job_subjects.specs.Subjects.{AreGridArrows}
use Rattle.job_subjects.proofs.Carrying.{refused_result_by}
use Rattle.job_subjects.proofs.MadeInstances.{cycles_over, arrows_made, told_of_cycles, first_of_grid, fits_tree, told_tree}
use Rattle.job_subjects.proofs.making.make_grid.Goals as goal

pub make_cycles-requires-clause-fits : goal.make_cycles-requires-clause-fits
make_cycles-requires-clause-fits c =
    fits_tree (record { origin = c.args.origin; weights = c.in_ok-weights.weights }) (grid_of c.args.side) 1
    c.in_ok-arrows.arrows c.in_ok-weights.ensures c.in_ok-arrows.ensures

pub returns-clause-told : goal.returns-clause-told
returns-clause-told c =
    told_of_cycles c.make_cycles.result c.args.origin c.args.count
    (cycles_over (MadeFacts c.args.side) c.in_ok-weights.weights c.in_ok-arrows.arrows)
    (record {
      side_is = record { some = c.requires.side.0; few = c.requires.side.1 };
      tree = told_tree c.args.origin (grid_of c.args.side) 1 c.in_ok-weights.weights c.in_ok-arrows.arrows
          (first_of_grid c.args.side c.requires.side.0) c.in_ok-weights.ensures c.in_ok-arrows.ensures;
    })
    c.make_cycles.ensures.made

pub returns-clause-made : goal.returns-clause-made
returns-clause-made c =
    arrows_made c.make_cycles.result c.args.origin c.args.count (AreGridArrows c.args.side) (MadeFacts c.args.side)
    (grid_of c.args.side) 1 c.in_ok-weights.weights c.in_ok-arrows.arrows c.in_ok-weights.ensures c.in_ok-arrows.ensures
    (record { side_is = record { some = c.requires.side.0; few = c.requires.side.1 }; is = refl })
    c.make_cycles.ensures.made

pub returns-clause-refused : goal.returns-clause-refused
returns-clause-refused c =
    let side = c.args.side in
    refused_result_by (RefusesStacks (MadeFacts side) c.args.origin c.in_ok-weights.weights c.args.count)
    (RefusesGrid c.args.origin c.args.count side) c.make_cycles.result
    (λ r h. subst (λ w. RefusesStacks (MadeFacts side) c.args.origin w c.args.count r) c.in_ok-weights.ensures h)
    c.make_cycles.ensures.refused
