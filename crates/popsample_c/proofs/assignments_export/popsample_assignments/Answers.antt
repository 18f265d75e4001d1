use Rattle.std.proofs.Common.{ℕ, List, ◌/◌, length, subst}
use Rattle.dimacs_read.specs.Literals.{cnf_in}
use Rattle.array_calls.specs.declared.outcome.Outcome.{Outcome}
use Rattle.array_calls.specs.Draws.{stopped_at}
use Rattle.array_calls.specs.Values.{value_arrays}
use Rattle.popsample_c.specs.Formulas.{EndAssignments, LeavesBy, StopAssignments}
use Rattle.popsample_c.proofs.assignments_export.popsample_assignments.Goals as goal

pub returns-in-Ok-Samples-clause-rows : goal.returns-in-Ok-Samples-clause-rows
returns-in-Ok-Samples-clause-rows c =
    let a = c.args in
    let n = c.drawn_by.new in
    let old = value_arrays a.values.now a.useds.now a.counts.now in
    let new = value_arrays n.values n.useds n.counts in
    let left = subst (λ (o : Outcome). LeavesBy a.by_rounds c.key_of.result a.height (cnf_in a.variables a.literals.now)
    a.first a.from.now a.budget (length a.counts.now / 2) old new (stopped_at o)) c.in-Ok-Samples.field-0-is
    c.in-Ok-Samples.ensures.leaves in
    λ less. subst (λ (key : List ℕ). EndAssignments a.variables a.literals.now a.by_rounds key a.height a.first a.from.now a.budget
    (length a.counts.now / 2) old new) c.key_of.ensures left

pub returns-in-Ok-Exhausted-clause-rows : goal.returns-in-Ok-Exhausted-clause-rows
returns-in-Ok-Exhausted-clause-rows c =
    let a = c.args in
    let n = c.drawn_by.new in
    let old = value_arrays a.values.now a.useds.now a.counts.now in
    let new = value_arrays n.values n.useds n.counts in
    let left = subst (λ (o : Outcome). LeavesBy a.by_rounds c.key_of.result a.height (cnf_in a.variables a.literals.now)
    a.first a.from.now a.budget (length a.counts.now / 2) old new (stopped_at o)) c.in-Ok-Exhausted.field-0-is
    c.in-Ok-Exhausted.ensures.leaves in
    λ less. subst (λ (key : List ℕ). EndAssignments a.variables a.literals.now a.by_rounds key a.height a.first a.from.now a.budget
    (length a.counts.now / 2) old new) c.key_of.ensures left

pub returns-in-Ok-Stopped-clause-stopped : goal.returns-in-Ok-Stopped-clause-stopped
returns-in-Ok-Stopped-clause-stopped c =
    let a = c.args in
    let n = c.drawn_by.new in
    let old = value_arrays a.values.now a.useds.now a.counts.now in
    let new = value_arrays n.values n.useds n.counts in
    let left = subst (λ (o : Outcome). LeavesBy a.by_rounds c.key_of.result a.height (cnf_in a.variables a.literals.now)
    a.first a.from.now a.budget (length a.counts.now / 2) old new (stopped_at o)) c.in-Ok-Stopped.field-0-is
    c.in-Ok-Stopped.ensures.leaves in
    λ same. subst (λ (key : List ℕ). StopAssignments a.variables a.literals.now a.by_rounds key a.height a.first a.from.now a.budget
    (length a.counts.now / 2) old new c.in-Ok-Stopped.row) c.key_of.ensures left
