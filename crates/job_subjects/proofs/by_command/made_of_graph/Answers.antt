use Rattle.std.proofs.Common.{inr}
use Rattle.pop_words.specs.declared.command.Command.TheVariants.{Orient, Tree}
use Rattle.job_subjects.specs.Subjects.{AreOrientations, AreArrows}
use Rattle.job_subjects.specs.Refused.{RefusesOrienting, RefusesTree}
use Rattle.job_subjects.proofs.MadeExtremal.{orientations_extremal, arrows_extremal, result_extremal}
use Rattle.job_subjects.proofs.MadeTexts.{made_by, refused_by_text}
use Rattle.job_subjects.proofs.by_command.made_of_graph.Goals as goal

-- what is made of the graph is made of the text that spells it, and what refuses it refuses the text
pub returns-in-Orient-clause-made : goal.returns-in-Orient-clause-made
returns-in-Orient-clause-made c text spelled =
    let graph = c.args.graph in
    made_by Orient c.args.wanted text (AreOrientations graph) c.make_orientation.result c.in-Orient.is
    (λ s are. record { graph = graph; spelled = spelled; are = are }) c.make_orientation.ensures.made

pub returns-in-Orient-clause-refused : goal.returns-in-Orient-clause-refused
returns-in-Orient-clause-refused c text spelled =
    let w = c.args.wanted in
    let graph = c.args.graph in
    refused_by_text Orient w text (RefusesOrienting w.origin w.count graph) c.make_orientation.result c.in-Orient.is
    (λ r h. inr (graph, spelled, h)) c.make_orientation.ensures.refused

pub returns-in-Tree-clause-made : goal.returns-in-Tree-clause-made
returns-in-Tree-clause-made c text spelled =
    let w = c.args.wanted in
    let graph = c.args.graph in
    made_by Tree w text (AreArrows w.root graph) c.make_tree.result c.in-Tree.is
    (λ s are. record { graph = graph; spelled = spelled; are = are }) c.make_tree.ensures.made

pub returns-in-Tree-clause-refused : goal.returns-in-Tree-clause-refused
returns-in-Tree-clause-refused c text spelled =
    let w = c.args.wanted in
    let graph = c.args.graph in
    refused_by_text Tree w text (RefusesTree w.origin w.count w.root graph) c.make_tree.result c.in-Tree.is
    (λ r h. inr (graph, spelled, h)) c.make_tree.ensures.refused

-- it is extremal
pub returns-in-Orient-clause-extremal : goal.returns-in-Orient-clause-extremal
returns-in-Orient-clause-extremal c =
    let w = c.args.wanted in
    result_extremal (AreOrientations c.args.graph) w.origin w.count c.make_orientation.result
    (orientations_extremal c.args.graph) c.make_orientation.ensures.made

pub returns-in-Tree-clause-extremal : goal.returns-in-Tree-clause-extremal
returns-in-Tree-clause-extremal c =
    let w = c.args.wanted in
    result_extremal (AreArrows w.root c.args.graph) w.origin w.count c.make_tree.result
    (arrows_extremal w.root c.args.graph) c.make_tree.ensures.made
