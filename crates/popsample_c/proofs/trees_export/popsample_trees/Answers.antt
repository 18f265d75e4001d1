use Rattle.std.proofs.Common.{ℕ, List, ◌+◌, ◌/◌, length, subst}
use Rattle.graph_read.specs.Graphs.{GraphOf}
use Rattle.graph_read.specs.Ends.{graph_in}
use Rattle.array_calls.specs.declared.outcome.Outcome.{Outcome}
use Rattle.array_calls.specs.Draws.{stopped_at}
use Rattle.array_calls.specs.Trees.{LeavesTrees, tree_arrays, trees_under, without_root}
use Rattle.popsample_c.specs.Calls.{EndTrees, StopTrees}
use Rattle.popsample_c.proofs.trees_export.popsample_trees.Goals as goal

pub returns-in-Ok-Samples-clause-rows : goal.returns-in-Ok-Samples-clause-rows
returns-in-Ok-Samples-clause-rows c =
    let a = c.args in
    let n = c.trees.new in
    let g : GraphOf = graph_in a.vertices a.ends.now a.weights.now in
    let old = tree_arrays a.parents.now a.edges.now a.useds.now a.counts.now in
    let new = tree_arrays n.parents n.edges n.useds n.counts in
    let left = subst (λ (o : Outcome). LeavesTrees (trees_under c.key_of.result a.height g (a.root + 1)) g (a.root + 1)
    a.first (without_root (a.root + 1) a.from.now) a.budget (length a.counts.now / 2) old new (stopped_at o))
    c.in-Ok-Samples.field-0-is c.in-Ok-Samples.ensures.leaves in
    λ less. subst (λ (key : List ℕ). EndTrees a.vertices a.ends.now a.weights.now a.root key a.height a.first a.from.now
    a.budget (length a.counts.now / 2) new) c.key_of.ensures left

pub returns-in-Ok-Exhausted-clause-rows : goal.returns-in-Ok-Exhausted-clause-rows
returns-in-Ok-Exhausted-clause-rows c =
    let a = c.args in
    let n = c.trees.new in
    let g : GraphOf = graph_in a.vertices a.ends.now a.weights.now in
    let old = tree_arrays a.parents.now a.edges.now a.useds.now a.counts.now in
    let new = tree_arrays n.parents n.edges n.useds n.counts in
    let left = subst (λ (o : Outcome). LeavesTrees (trees_under c.key_of.result a.height g (a.root + 1)) g (a.root + 1)
    a.first (without_root (a.root + 1) a.from.now) a.budget (length a.counts.now / 2) old new (stopped_at o))
    c.in-Ok-Exhausted.field-0-is c.in-Ok-Exhausted.ensures.leaves in
    λ less. subst (λ (key : List ℕ). EndTrees a.vertices a.ends.now a.weights.now a.root key a.height a.first a.from.now
    a.budget (length a.counts.now / 2) new) c.key_of.ensures left

pub returns-in-Ok-Stopped-clause-stopped : goal.returns-in-Ok-Stopped-clause-stopped
returns-in-Ok-Stopped-clause-stopped c =
    let a = c.args in
    let n = c.trees.new in
    let g : GraphOf = graph_in a.vertices a.ends.now a.weights.now in
    let old = tree_arrays a.parents.now a.edges.now a.useds.now a.counts.now in
    let new = tree_arrays n.parents n.edges n.useds n.counts in
    let left = subst (λ (o : Outcome). LeavesTrees (trees_under c.key_of.result a.height g (a.root + 1)) g (a.root + 1)
    a.first (without_root (a.root + 1) a.from.now) a.budget (length a.counts.now / 2) old new (stopped_at o))
    c.in-Ok-Stopped.field-0-is c.in-Ok-Stopped.ensures.leaves in
    λ same. subst (λ (key : List ℕ). StopTrees a.vertices a.ends.now a.weights.now a.root key a.height a.first a.from.now
    a.budget (length a.counts.now / 2) old new c.in-Ok-Stopped.row) c.key_of.ensures left
