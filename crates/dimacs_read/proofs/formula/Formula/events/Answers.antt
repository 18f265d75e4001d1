use Rattle.std.proofs.Common.{◌≡◌, ◌≤◌, ◌+◌, ℕ, List, ℤ, [], Some, length, slice_get, sym, ap, ◌∙◌, subst, arith}
use Rattle.std.proofs.lemmas.Option.{slice_get-get_or}
use Rattle.std.proofs.lemmas.Result.{IfOk-weaker}
use Rattle.pop_instance.specs.Gathering.{KeepsFirst}
use Rattle.pop_instance.specs.Events.{FitVariables}
use Rattle.dimacs_read.specs.Falsifying.{AreEventsOf, IsCubeOf}
use Rattle.dimacs_read.proofs.LiteralsLemmas.{events_fit}
use Rattle.dimacs_read.proofs.EventsOfClauses.{AreRowsOf, events_of, rows_more, rows_same}
use Rattle.dimacs_read.proofs.formula.Formula.events.Goals as goal
use Rattle.dimacs_read.proofs.formula.Formula.events.Goals.{in-Some+in_ok-push, in_default}

pub loop-i-preserved : goal.loop-i-preserved
loop-i-preserved c =
    let clauses : List (List ℤ) = c.args.self.now.clauses in
    let clause : List ℤ = c.clause.result.now in
    let at : slice_get clauses c.loop-i.i ≡ Some clause =
    slice_get-get_or clauses c.loop-i.i [] (omega (arith, c.loop-i-test.true, c.clauses-i-end.ensures.count))
    ∙ ap (λ x. Some x) (sym c.clause.ensures.literals) in
    elim c.match-branch-3.branch [
      | in-Some+in_ok-push w ↦
          rows_more clauses c.loop-i.i clause c.loop-i.rows.items c.match-branch-3.rows.items w.in-Some.cube
          c.loop-i.invariant at (subst (IsCubeOf clause) w.in-Some.is c.in_ok-cube.ensures)
          (ap (λ v. v.items) w.rows-is ∙ w.in_ok-push.ensures.items)
      | in_default w ↦
          subst (AreRowsOf clauses (c.loop-i.i + 1)) (sym (ap (λ v. v.items) w.rows-is))
          (rows_same clauses c.loop-i.i clause c.loop-i.rows.items c.loop-i.invariant at
          (subst (IsCubeOf clause) w.in_default.is c.in_ok-cube.ensures))
    ]

-- the rows are those of all clauses, so that the events are those of the formula
pub returns-clause-events : goal.returns-clause-events
returns-clause-events c =
    let clauses : List (List ℤ) = c.args.self.now.clauses in
    let all : length clauses ≤ c.loop-i.i = omega (arith, c.loop-i-test.false, c.clauses-i-end.ensures.count) in
    IfOk-weaker c.gather.result (KeepsFirst c.loop-i.rows.items) (AreEventsOf clauses)
    (λ events first. events_of clauses c.loop-i.i c.loop-i.rows.items events c.loop-i.invariant all first)
    c.gather.ensures

pub returns-clause-fit : goal.returns-clause-fit
returns-clause-fit c =
    let clauses : List (List ℤ) = c.args.self.now.clauses in
    let n : ℕ = c.args.self.now.variables in
    let all : length clauses ≤ c.loop-i.i = omega (arith, c.loop-i-test.false, c.clauses-i-end.ensures.count) in
    IfOk-weaker c.gather.result (KeepsFirst c.loop-i.rows.items) (FitVariables n)
    (λ events first. events_fit n clauses events c.variables-variables.ensures.literals
    (events_of clauses c.loop-i.i c.loop-i.rows.items events c.loop-i.invariant all first))
    c.gather.ensures
