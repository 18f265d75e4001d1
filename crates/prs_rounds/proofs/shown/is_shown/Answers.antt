use Rattle.std.proofs.Common.{◌≡◌, ℕ, Bool, true, false, ◌==◌, ◌&&◌, get_or, sym, ap, ap₂, ◌∙◌, ne_eqb, eq-eqb}
use Rattle.std.specs.Prelude.{slice_index}
use Rattle.std.proofs.lemmas.Option.{get_or_from_slice_get, slice_get_within}
use Rattle.std.proofs.lemmas.List.Folds.{list_all_more, list_all_at}
use Rattle.prs_rounds.proofs.shown.is_shown.Goals as goal

pub returns-then-values-v : goal.returns-then-values-v
returns-then-values-v c =
    let values = c.args.values.now in
    let e = c.args.cube.now in
    let p : ℕ × ℕ = c.pair-v.result in
    let at : get_or e c.loop-i.i (0, 0) ≡ p = get_or_from_slice_get e c.loop-i.i p (0, 0) c.pair-v.ensures in
    let within = slice_get_within e c.loop-i.i p c.pair-v.ensures in
    let other : (slice_index values p.0 == p.1) ≡ false = ne_eqb (slice_index values p.0) p.1 c.if-values-v.true in
    sym (list_all_at (λ (q : ℕ × ℕ). slice_index values q.0 == q.1) e c.loop-i.i (0, 0) within
    (ap (λ (q : ℕ × ℕ). slice_index values q.0 == q.1) at ∙ other))

pub loop-i-preserved : goal.loop-i-preserved
loop-i-preserved c =
    let values = c.args.values.now in
    let e = c.args.cube.now in
    let p : ℕ × ℕ = c.pair-v.result in
    let at : get_or e c.loop-i.i (0, 0) ≡ p = get_or_from_slice_get e c.loop-i.i p (0, 0) c.pair-v.ensures in
    let within = slice_get_within e c.loop-i.i p c.pair-v.ensures in
    let same : (slice_index values p.0 == p.1) ≡ true = eq-eqb (slice_index values p.0) p.1 c.if-values-v.false in
    list_all_more (λ (q : ℕ × ℕ). slice_index values q.0 == q.1) e c.loop-i.i (0, 0) within
    ∙ ap₂ (λ (a b : Bool). a && b) c.loop-i.invariant (ap (λ (q : ℕ × ℕ). slice_index values q.0 == q.1) at ∙ same)
