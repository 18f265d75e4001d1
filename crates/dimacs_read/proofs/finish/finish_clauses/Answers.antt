use Rattle.std.proofs.Common.{◌≡◌, List, Option, Result, Err, sym, ap, ◌∙◌, subst, refl, arith, length}
use Rattle.std.proofs.lemmas.Result.{err_from_is_err_and}
use Rattle.dimacs_read.specs.Cnf.{Cnf}
use Rattle.pop_edge.specs.declared.refusal.ReadRefusal.{ReadRefusal}
use Rattle.pop_edge.specs.declared.refusal.ReadRefusal.TheVariants.{OutOfMemory}
use Rattle.dimacs_read.specs.CnfText.{clauses_of}
use Rattle.dimacs_read.specs.Cnf.{empty_in, first_empty}
use Rattle.dimacs_read.specs.declared.token.Token.{Token}
use Rattle.dimacs_read.specs.Flat.{Rises, parts}
use Rattle.dimacs_read.specs.Reading.{FinishesClauses, Holds, empty_from}
use Rattle.dimacs_read.proofs.FlatLemmas.{length-parts}
use Rattle.dimacs_read.proofs.FinishedText.{clauses_by, rises_by, literals_by, empty_same}
use Rattle.dimacs_read.proofs.finish.finish_clauses.Goals as goal
use Rattle.dimacs_read.proofs.finish.finish_clauses.Goals.{After-len-found}

-- the clauses that the words spell
clauses_are : (c : After-len-found) (tokens : List (Option Token)) → Holds c.args.clauses tokens
    → clauses_of tokens ≡ parts c.args.clauses.literals.items 0 c.close.new.ends.items
clauses_are c tokens h =
    clauses_by c.args.clauses c.close.new.ends.items c.len.result tokens h (omega (arith, c.len.ensures))
    c.in_ok-close.ensures

-- as many are found
as_many : (c : After-len-found) (tokens : List (Option Token)) → Holds c.args.clauses tokens
    → length (clauses_of tokens) ≡ c.len-found.result
as_many c tokens h =
    let size = length-parts c.args.clauses.literals.items 0 c.close.new.ends.items in
    omega (arith, ap length (clauses_are c tokens h), size, c.len-found.ensures)

-- and their ends rise
ends_rise : (c : After-len-found) → Rises 0 c.close.new.ends.items (length c.args.clauses.literals.items)
ends_rise c =
    rises_by c.args.clauses c.close.new.ends.items c.len.result c.requires.rises (omega (arith, c.len.ensures))
    c.in_ok-close.ensures

pub returns-in_err-close : goal.returns-in_err-close
returns-in_err-close c = λ tokens h.
    let p = err_from_is_err_and c.from_residual.result c.from_residual.ensures.1 in
    let from : ◌≡◌ {A = Result Cnf ReadRefusal} c.from_residual.result (Err OutOfMemory) = p.1 ∙ ap (λ x. Err x) p.2 in
    subst (FinishesClauses c.args.header (clauses_of tokens)) (sym from) tt

pub returns-then-found-header : goal.returns-then-found-header
returns-then-found-header c = λ tokens h.
    let size = as_many (goal.at.returns-then-found-header c).After-len-found tokens h in (
      λ k. absurd (omega (arith, k, size, c.if-found-header.true)),
      refl,
      omega (arith, size),
    )

pub returns-in-Some : goal.returns-in-Some
returns-in-Some c = λ tokens h.
    let before = (goal.at.returns-in-Some c).After-len-found in
    let is = clauses_are before tokens h in
    let rises = ends_rise before in (
      omega (arith, as_many before tokens h, c.if-found-header.false),
      (
        c.in-Some.empty,
        refl,
        ap (empty_in 0) is ∙ empty_same c.args.clauses.literals.items 0 0 c.close.new.ends.items rises
            ∙ ap (empty_from 0 0) (sym c.deref.ensures.value) ∙ sym c.in-Some.ensures.first,
      ),
    )

pub of-requires-clause-rises : goal.of-requires-clause-rises
of-requires-clause-rises c = ends_rise (goal.at.of-requires-clause-rises c).After-len-found

pub of-requires-clause-within : goal.of-requires-clause-within
of-requires-clause-within c =
    literals_by c.args.header.variables c.args.clauses c.close.new.ends.items c.len.result c.requires.literals
    (omega (arith, c.len.ensures)) c.in_ok-close.ensures

pub returns-in-None : goal.returns-in-None
returns-in-None c = λ tokens h.
    let before = (goal.at.returns-in-None c).After-len-found in
    let is = clauses_are before tokens h in
    let rises = ends_rise before in (
      omega (arith, as_many before tokens h, c.if-found-header.false),
      c.of.ensures ∙ ap (λ cs. let g : Cnf = record { variables = c.args.header.variables; clauses = cs } in g)
          (sym is),
      ap first_empty c.of.ensures ∙ empty_same c.args.clauses.literals.items 0 0 c.close.new.ends.items rises
          ∙ ap (empty_from 0 0) (sym c.deref.ensures.value) ∙ sym c.in-None.ensures.first,
    )
