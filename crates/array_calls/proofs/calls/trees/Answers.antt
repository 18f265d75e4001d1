use Rattle.std.proofs.Common.{inr, ◌+◌, ◌/◌, ◌<◌, ◌≡◌, ◌∙◌, length, arith, sym, subst}
use Rattle.pop_model.specs.Instances.{Instance}
use Rattle.graph_read.specs.Graphs.{GraphOf}
use Rattle.graph_read.specs.Ends.{graph_in}
use Rattle.array_calls.specs.Refused.{RefusesTreeArrays, RefusesTrees}
use Rattle.array_calls.specs.Trees.{LeavesTrees, tree_arrays, trees_under, without_root}
use Rattle.array_calls.proofs.Carrying.{passed_refusal}
use Rattle.array_calls.proofs.calls.trees.Goals as goal

pub returns-clause-leaves : goal.returns-clause-leaves
returns-clause-leaves c =
    let a = c.args.asked in
    let d = c.args.draw in
    let root = a.root + 1 in
    let g : c.in_ok-ends.ends ≡ graph_in a.vertices a.ends.now a.weights.now =
    c.in_ok-ends.ensures ∙ c.in_ok-graph.ensures.graph in
    let n = c.put_instance.new in
    let old = tree_arrays c.args.parents.now c.args.edges.now c.args.useds.now c.args.counts.now in
    let new = tree_arrays n.parents n.edges n.useds n.counts in
    let count = length c.args.counts.now / 2 in
    let from = without_root root d.from.now in
    subst (LeavesTrees (trees_under d.key d.height (graph_in a.vertices a.ends.now a.weights.now) root)
    (graph_in a.vertices a.ends.now a.weights.now) root d.first from d.budget count old new)
    (sym c.outcome_of.ensures.stopped)
    (subst (λ (f : GraphOf). LeavesTrees (trees_under d.key d.height f root) f root d.first from d.budget count old new
    c.in_ok-stopped.stopped) g
    (subst (λ (i : Instance). LeavesTrees i c.in_ok-ends.ends root d.first from d.budget count old new
    c.in_ok-stopped.stopped) c.in_ok-instance.ensures.made c.in_ok-stopped.ensures.leaves))

pub returns-in_err-instance-clause-refused : goal.returns-in_err-instance-clause-refused
returns-in_err-instance-clause-refused c =
    let a = c.args.asked in
    let g : c.in_ok-ends.ends ≡ graph_in a.vertices a.ends.now a.weights.now =
    c.in_ok-ends.ensures ∙ c.in_ok-graph.ensures.graph in
    let less : a.root < a.vertices = omega (arith, c.if-asked.false) in
    passed_refusal (RefusesTrees c.in_ok-ends.ends (a.root + 1))
    (RefusesTreeArrays a.vertices a.ends.now a.weights.now a.root) c.from_residual-in_err-instance.result
    c.in_err-instance.field-0.0 c.from_residual-in_err-instance.ensures.1
    (λ x h. inr (inr (less, subst (λ (f : GraphOf). RefusesTrees f (a.root + 1) x) g h)))
    c.in_err-instance.ensures.refused
