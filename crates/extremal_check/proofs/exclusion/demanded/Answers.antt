use Rattle.std.proofs.Common.{ℕ, sym, ap, ◌∙◌, Contains}
use Rattle.std.proofs.lemmas.Option.{slice_get_within, get_or_from_slice_get}
use Rattle.pop_model.specs.Cycles.{demand}
use Rattle.pop_model.proofs.Following.{rising_demand}
use Rattle.extremal_check.proofs.exclusion.demanded.Goals as goal

pub returns-then-w-v : goal.returns-then-w-v
returns-then-w-v c =
    let e = c.args.cube.now in
    let at = c.args.place in
    let p : ℕ × ℕ = c.pair-w.result in
    let there : Contains e p = (
      at,
      slice_get_within e at p c.pair-w.ensures,
      get_or_from_slice_get e at p p c.pair-w.ensures,
    ) in
    sym (rising_demand e p.0 p.1 c.len.ensures.cube.rising there) ∙ ap (demand e) c.if-w-v.true
