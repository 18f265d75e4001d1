use Rattle.std.proofs.Common.{◌≡◌, ◌*◌, ◌<◌, length, min, inl, inr, ap, subst, sym, ◌∙◌, arith}
use Rattle.pop_model.specs.Stacks.{StackTable, variables_of, height_of}
use Rattle.pop_workers.specs.Stages.{height}
use Rattle.pop_workers.proofs.StageTurns.{some_variable}
use Rattle.pop_workers.proofs.growing.height_to_come.Goals as goal

pub height-height-requires : goal.height-height-requires
height-height-requires c =
    let stuck = c.args.stuck.now in
    let some : 0 < length stuck = omega (arith, c.len.ensures, c.if-len-eq0.false) in
    subst (λ (s : StackTable). 0 < variables_of s) (sym c.stacks.ensures)
    (some_variable c.args.instance.now c.requires.stuck.0 stuck c.units-units.ensures.instance c.requires.stuck.1 some)

pub returns-clause-height : goal.returns-clause-height
returns-clause-height c =
    let i = c.args.instance.now in
    let last = c.args.last in
    let stuck = c.args.stuck.now in
    let some : 0 < length stuck = omega (arith, c.len.ensures, c.if-len-eq0.false) in
    let high : c.height-height.result ≡ height i =
    c.height-height.ensures ∙ ap (λ (s : StackTable). height_of s 0) c.stacks.ensures in
    let variables =
    some_variable i c.requires.stuck.0 stuck c.units-units.ensures.instance c.requires.stuck.1 some in
    let positive : 0 < height i = c.units-units.ensures.instance.table.entries 0 variables in
    let is : c.min.result ≡ min (2 * height i) last = c.min.ensures ∙ ap (λ n. min (2 * n) last) high in
    record {
      goes_on = λ is_last. elim is_last [
        | inl none ↦ let size = ap length none in omega (arith, some, size)
        | inr same ↦ omega (arith, same, high, c.if-height-last.false)
      ];
      is = is;
      higher = omega (arith, is, positive, high, c.if-height-last.false);
    }
