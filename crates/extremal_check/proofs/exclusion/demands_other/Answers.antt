use Rattle.std.proofs.Common.{sym, ◌∙◌}
use Rattle.std.proofs.lemmas.Bool.{false≢true}
use Rattle.extremal_check.proofs.OtherDemands.{differ_test, demands_other_value, demands_that_value, demands_none}
use Rattle.extremal_check.proofs.exclusion.demands_other.Goals as goal

pub returns-in-Some : goal.returns-in-Some
returns-in-Some c =
    let e = c.args.cube.now in
    let v = c.args.v in
    let value = c.args.value in
    let is = sym c.demanded.ensures ∙ c.in-Some.is in
    let test = differ_test value c.in-Some.wanted in (
      λ differs. demands_other_value e v value c.in-Some.wanted is (test.0 differs),
      λ other. test.1 (demands_that_value e v value c.in-Some.wanted c.len-len.ensures.cube.rising is other),
    )

pub returns-in-None : goal.returns-in-None
returns-in-None c = (
  λ no'. absurd (false≢true no'),
  λ other. absurd (demands_none c.args.cube.now c.args.v c.args.value (sym c.demanded.ensures ∙ c.in-None.is) other),
)
