use Rattle.std.proofs.Common.{◌≡◌, List, map, refl, sym, ap, subst, ◌∙◌}
use Rattle.dimacs_read.specs.Cnf.{AreLiterals, Cnf, empty_in, first_empty}
use Rattle.dimacs_read.specs.CnfText.{clauses_of}
use Rattle.dimacs_read.specs.Flat.{parts}
use Rattle.dimacs_read.specs.Literals.{token_at}
use Rattle.dimacs_read.specs.Reading.{empty_from}
use Rattle.dimacs_read.proofs.ArrayClauses.{array_clauses, array_literals}
use Rattle.dimacs_read.proofs.FinishedText.{empty_same}
use Rattle.dimacs_read.proofs.literals.formula_of_literals.Goals as goal

pub of-requires-clause-within : goal.of-requires-clause-within
of-requires-clause-within c =
    let known = c.in_ok-ends.ensures.clauses in
    subst (AreLiterals c.args.variables)
    (array_clauses c.in_ok-clauses.clauses c.args.literals.now c.in_ok-clauses.ensures known.ended)
    (array_literals c.args.variables c.args.literals.now known.known)

pub returns-in-Some-clause-fault : goal.returns-in-Some-clause-fault
returns-in-Some-clause-fault c =
    let known = c.in_ok-ends.ensures.clauses in
    let held = c.in_ok-clauses.clauses in (
      known,
      (
        c.in-Some.empty,
        refl,
        ap (empty_in 0) (array_clauses held c.args.literals.now c.in_ok-clauses.ensures known.ended)
            ∙ empty_same held.literals.items 0 0 held.ends.items c.in_ok-clauses.ensures.holds.rises
            ∙ ap (empty_from 0 0) (sym c.deref.ensures.value) ∙ sym c.in-Some.ensures.first,
      ),
    )

pub returns-in-None-clause-formula : goal.returns-in-None-clause-formula
returns-in-None-clause-formula c =
    c.of.ensures
    ∙ ap (λ cs. let f : Cnf = record { variables = c.args.variables; clauses = cs } in f)
    (sym (array_clauses c.in_ok-clauses.clauses c.args.literals.now c.in_ok-clauses.ensures
    c.in_ok-ends.ensures.clauses.ended))

pub returns-in-None-clause-no_empty : goal.returns-in-None-clause-no_empty
returns-in-None-clause-no_empty c =
    let held = c.in_ok-clauses.clauses in
    ap first_empty c.of.ensures
    ∙ empty_same held.literals.items 0 0 held.ends.items c.in_ok-clauses.ensures.holds.rises
    ∙ ap (empty_from 0 0) (sym c.deref.ensures.value) ∙ sym c.in-None.ensures.first
