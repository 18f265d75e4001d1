use Rattle.std.proofs.Common.{◌+◌, ℕ, length, sym, ap, ◌∙◌, subst, arith, Ok}
use Rattle.std.proofs.lemmas.Result.{err_from_is_err_and}
use Rattle.pop_instance.specs.Events.{FitVariables}
use Rattle.graph_read.specs.Graphs.{GraphOf}
use Rattle.sink_popping.specs.SinkCubes.{ComesOfVertex}
use Rattle.sink_popping.proofs.GatheredSinks.{SinksBelow, sinks_same, sinks_more, fault_of_next, none_isolated, sinks_are_events, sinks_fit}
use Rattle.sink_popping.proofs.events.sinks_of.Goals as goal
use Rattle.sink_popping.proofs.events.sinks_of.Goals.{in-Some+in_ok-push, in_default}

pub returns-in_err-cube-clause-fault : goal.returns-in_err-cube-clause-fault
returns-in_err-cube-clause-fault c =
    let p = err_from_is_err_and c.from_residual-in_err-cube.result c.from_residual-in_err-cube.ensures.1 in
    rw (p.1, p.2) (fault_of_next c.args.incidence.now c.loop-w.w c.loop-w.rows.items c.loop-w.invariant
    c.in_err-cube.field-0.0
    c.in_err-cube.ensures)

pub loop-w-preserved : goal.loop-w-preserved
loop-w-preserved c =
    let g = c.args.incidence.now in
    let w : ℕ = c.loop-w.w in
    let comes : ComesOfVertex g w (Ok c.in_ok-cube.field-0) = c.in_ok-cube.ensures in
    elim c.match-branch-4.branch [
      | in-Some+in_ok-push b ↦
          subst (SinksBelow g (w + 1)) (sym (ap (λ v. v.items) b.rows-is ∙ b.in_ok-push.ensures.items))
          (sinks_more g w c.loop-w.rows.items c.loop-w.invariant b.in-Some.cube
          (subst (λ o. ComesOfVertex g w (Ok o)) b.in-Some.is comes))
      | in_default b ↦
          subst (SinksBelow g (w + 1)) (sym (ap (λ v. v.items) b.rows-is))
          (sinks_same g w c.loop-w.rows.items c.loop-w.invariant
          (subst (λ o. ComesOfVertex g w (Ok o)) b.in_default.is comes))
    ]

pub of-requires-clause-events : goal.of-requires-clause-events
of-requires-clause-events c =
    let g = c.args.incidence.now in
    sinks_are_events g c.loop-w.w c.loop-w.rows.items c.loop-w.invariant
    (omega (arith, c.loop-w-test.false, c.vertices-w-end.ensures.count, ap (λ (f : GraphOf). f.vertices) c.graph-graph.ensures))

pub of-requires-clause-short : goal.of-requires-clause-short
of-requires-clause-short c =
    let few = c.loop-w.invariant.few in
    let all = c.vertices.ensures.graph.vertices_fit in
    omega (
      arith,
      few,
      all,
      c.loop-w.auto.w-end,
      c.vertices-w-end.ensures.count,
      ap (λ (f : GraphOf). f.vertices) c.graph-graph.ensures,
    )

pub returns-clause-fit : goal.returns-clause-fit
returns-clause-fit c =
    let g = c.args.incidence.now in
    subst (FitVariables (length g.edges)) (sym c.of.ensures)
    (sinks_fit g c.loop-w.w c.loop-w.rows.items c.loop-w.invariant
    (omega (arith, c.loop-w-test.false, c.vertices-w-end.ensures.count, ap (λ (f : GraphOf). f.vertices) c.graph-graph.ensures)))

pub returns-clause-touched : goal.returns-clause-touched
returns-clause-touched c =
    none_isolated c.args.incidence.now c.loop-w.w c.loop-w.rows.items c.loop-w.invariant
    (omega (arith, c.loop-w-test.false, c.vertices-w-end.ensures.count, ap (λ (f : GraphOf). f.vertices) c.graph-graph.ensures))
