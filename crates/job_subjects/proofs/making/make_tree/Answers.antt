use Rattle.std.proofs.Common.{◌≡◌, ◌≤◌, ℕ, refl, arith}
use Rattle.graph_read.specs.Graphs.{IsVertex}
use Rattle.pop_print.specs.declared.facts.Facts.TheVariants.{Tree as TreeFacts}
use Rattle.job_subjects.specs.StackFaults.{RefusesStacks}
use Rattle.job_subjects.specs.Refused.{HasCutOff, RefusesTree}
use Rattle.job_subjects.specs.Subjects.{AreArrows}
use Rattle.job_subjects.proofs.Carrying.{refused_result_by, passed_refusal}
use Rattle.job_subjects.proofs.RefusedForms.{cut_off_refused, tree_refused}
use Rattle.job_subjects.proofs.MadeInstances.{cycles_over, arrows_made, told_of_cycles, fits_tree, told_tree}
use Rattle.job_subjects.proofs.making.make_tree.Goals as goal

pub make_cycles-requires-clause-fits : goal.make_cycles-requires-clause-fits
make_cycles-requires-clause-fits c =
    fits_tree (record { origin = c.args.origin; weights = c.in_ok-arrows.weights }) c.args.graph c.args.root
    c.in_ok-arrows.arrows c.in_ok-arrows.ensures.weights c.in_ok-arrows.ensures.arrows

-- the root is a vertex
root_of : (n root vertices : ℕ) → n ≡ vertices → 1 ≤ root → root ≤ n → IsVertex vertices root
root_of n root vertices count first last = record { first = first; last = omega (arith, count, last) }

pub returns-clause-told : goal.returns-clause-told
returns-clause-told c =
    told_of_cycles c.make_cycles.result c.args.origin c.args.count
    (cycles_over (TreeFacts c.args.graph c.args.root) c.in_ok-arrows.weights c.in_ok-arrows.arrows)
    (told_tree c.args.origin c.args.graph c.args.root c.in_ok-arrows.weights c.in_ok-arrows.arrows
    (root_of c.vertices.result c.args.root c.args.graph.vertices c.vertices.ensures.count c.requires.root
    c.if-root-vertices.false)
    c.in_ok-arrows.ensures.weights c.in_ok-arrows.ensures.arrows)
    c.make_cycles.ensures.made

pub returns-clause-made : goal.returns-clause-made
returns-clause-made c =
    arrows_made c.make_cycles.result c.args.origin c.args.count (AreArrows c.args.root c.args.graph)
    (TreeFacts c.args.graph c.args.root) c.args.graph c.args.root c.in_ok-arrows.weights c.in_ok-arrows.arrows
    c.in_ok-arrows.ensures.weights c.in_ok-arrows.ensures.arrows
    (record {
      root_is = root_of c.vertices.result c.args.root c.args.graph.vertices c.vertices.ensures.count c.requires.root
          c.if-root-vertices.false;
      joined = c.in_ok-arrows.ensures.connected;
      is = refl;
    })
    c.make_cycles.ensures.made

-- a vertex is cut off
pub returns-in_err-arrows-clause-refused : goal.returns-in_err-arrows-clause-refused
returns-in_err-arrows-clause-refused c =
    let g = c.args.graph in
    let root = c.args.root in
    let last : root ≤ g.vertices = omega (arith, c.vertices.ensures.count, c.if-root-vertices.false) in
    passed_refusal (HasCutOff g root) (RefusesTree c.args.origin c.args.count root g) c.from_residual.result
    c.in_err-arrows.field-0.0 c.from_residual.ensures.1 (cut_off_refused c.args.origin c.args.count root g last)
    c.in_err-arrows.ensures.refused

-- the stacks are refused
pub returns-clause-refused : goal.returns-clause-refused
returns-clause-refused c =
    let g = c.args.graph in
    let root = c.args.root in
    let weights = c.in_ok-arrows.weights in
    let last : root ≤ g.vertices = omega (arith, c.vertices.ensures.count, c.if-root-vertices.false) in
    refused_result_by (RefusesStacks (TreeFacts g root) c.args.origin weights c.args.count)
    (RefusesTree c.args.origin c.args.count root g) c.make_cycles.result
    (tree_refused c.args.origin c.args.count root g weights last c.in_ok-arrows.ensures.connected
    c.in_ok-arrows.ensures.weights)
    c.make_cycles.ensures.refused
