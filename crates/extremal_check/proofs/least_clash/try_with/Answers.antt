use Rattle.std.proofs.Common.{sym, ◌∙◌, arith}
use Rattle.std.proofs.lemmas.Bool.{false≢true}
use Rattle.pop_model.specs.Extremal.{Exclude}
use Rattle.pop_instance.specs.Events.{cube_at}
use Rattle.extremal_check.specs.Clashes.{ClashAt}
use Rattle.extremal_check.proofs.Trying.{stamp_it, excluded}
use Rattle.extremal_check.proofs.least_clash.try_with.Goals as goal

pub returns-then-exclude-clause-tried : goal.returns-then-exclude-clause-tried
returns-then-exclude-clause-tried c =
    let none = excluded c.args.events.now c.args.i c.args.j
    (rw (← c.cube.ensures, ← c.cube-2.ensures) (c.exclude.ensures.0 c.if-exclude.true)) in
    stamp_it c.args.events.now c.args.i c.args.j c.args.stamps.now c.args.least c.args.least c.requires.tried
    c.requires.within
    (omega arith) c.requires.tried.clash (λ clash. absurd (none clash))

pub returns-then-exclude-clause-not_above : goal.returns-then-exclude-clause-not_above
returns-then-exclude-clause-not_above c = λ clash.
    absurd (excluded c.args.events.now c.args.i c.args.j
    (rw (← c.cube.ensures, ← c.cube-2.ensures) (c.exclude.ensures.0 c.if-exclude.true)) clash)

pub returns-clause-tried : goal.returns-clause-tried
returns-clause-tried c =
    let agree : Exclude (cube_at c.args.events.now c.args.i) (cube_at c.args.events.now c.args.j) → ⊥ = λ exclude.
    false≢true (sym c.if-exclude.false ∙ c.exclude.ensures.1 (rw (c.cube.ensures, c.cube-2.ensures) exclude)) in
    let clash : ClashAt c.args.events.now c.args.i c.args.j = record {
      rising = c.requires.rising;
      within = c.requires.within;
      clash = record { share = c.requires.share; agree = agree };
    } in
    stamp_it c.args.events.now c.args.i c.args.j c.args.stamps.now c.args.least c.args.j c.requires.tried
    c.requires.within
    (omega arith) (λ less. clash) (λ clashes. omega arith)
