use Rattle.std.proofs.Common.{◌≡◌, ◌<◌, ◌+◌, ◌++◌, ℕ, List, arith, [], length, take, drop, get_or, ap, subst, sym, ◌∙◌, All, ◌-◌, ◌^◌}
use Rattle.std.proofs.lemmas.List.{take_at}
use Rattle.pop_model.specs.Popping.{pop, cursor}
use Rattle.pop_model.proofs.PopLemmas.{length-pop}
use Rattle.pop_instance.specs.Events.{cube_at}
use Rattle.pop_instance.specs.Index.{AreTallies}
use Rattle.pop_instance.proofs.Tallies.{tally_fits, tally_more}
use Rattle.pop_instance.proofs.index.tally.Goals as goal

pub raise-requires-clause-room : goal.raise-requires-clause-room
raise-requires-clause-room c =
    let rows = c.args.events.now in
    let n = c.loop-place.place in
    let tallies : List ℕ = c.loop-place.tallies.items in
    let within : n < length rows = omega (arith, c.count-place-end.ensures.count, c.loop-place-test.true) in
    let room : All (λ p. cursor tallies p.0 < 2 ^ 31 - 1) (cube_at rows n) = λ k d inside.
    let below = c.requires.known n (0, []) within k d inside in
    let few = tally_fits rows n c.args.count tallies c.loop-place.invariant (get_or (cube_at rows n) k d).0 below in
    omega (arith, few, within, c.count-place-end.ensures.count, c.count-place-end.ensures.short) in
    rw (c.cube.ensures, c.deref_mut.ensures.value) room

pub loop-place-preserved : goal.loop-place-preserved
loop-place-preserved c =
    let rows = c.args.events.now in
    let n = c.loop-place.place in
    let old = c.loop-place.tallies in
    let new : List ℕ = c.raise.new.entries in
    let is : new ≡ pop old.items (cube_at rows n) = c.raise.ensures
    ∙ ap (λ xs. pop xs c.cube.result.now) c.deref_mut.ensures.value ∙ ap (pop old.items) c.cube.ensures in
    let size : length new ≡ old.len = ap length is ∙ length-pop old.items (cube_at rows n) ∙ sym old.ok.0 in
    let whole : take old.len (new ++ drop (length new) old.items) ≡ pop old.items (cube_at rows n) =
    take_at new (drop (length new) old.items) old.len size ∙ is in
    subst (AreTallies rows (n + 1) c.args.count) (sym whole)
    (tally_more rows n c.args.count old.items c.loop-place.invariant)
