use Rattle.std.proofs.Common.{◌≡◌, ℤ, pos, ◌<◌, get_or, length, rules, subst, arith}
use Rattle.std.proofs.lemmas.Int.{to_z-of_z}
use mir.Syntax.{w32}
use mir.Val.{SFits, of_z, to_z}
use Rattle.dimacs_read.specs.Literals.{token_at}
use Rattle.dimacs_read.specs.Reading.{Adds}
use Rattle.dimacs_read.proofs.ArrayClauses.{array_more}
use Rattle.dimacs_read.proofs.literals.cut.Goals as goal

pub loop-literal-preserved : goal.loop-literal-preserved
loop-literal-preserved c =
    let xs = c.args.literals.now in
    let i = c.loop-literal.literal-index in
    let within : i < length xs = omega (arith, c.loop-literal-test.true) in
    let l : ℤ = get_or xs i (pos 0) in
    let fits : SFits w32 l = search rules in
    let same : to_z w32 (of_z w32 l) ≡ l = to_z-of_z w32 l fits in
    let added = subst (λ (x : ℤ). Adds c.loop-literal.clauses c.put.new.self (token_at x)) same c.in_ok-put.ensures in
    array_more c.loop-literal.clauses c.put.new.self xs i within c.requires.room c.loop-literal.invariant added
