use Rattle.std.proofs.Common.{ℕ, List, subst, arith, All}
use Rattle.std.proofs.lemmas.List.Elements.{All-more}
use Rattle.pop_model.specs.Popping.{Cube, IsCube}
use Rattle.pop_model.proofs.Members.{all_whole}
use Rattle.pop_instance.proofs.Gathered.{kept_events}
use Rattle.pop_instance.proofs.events.Events.gather.Goals as goal

pub loop-cube-preserved : goal.loop-cube-preserved
loop-cube-preserved c =
    let HasACube : ℕ × Cube → Type 0 = λ r. IsCube r.1 in
    let rows : List (ℕ × Cube) = c.deref-cube-items.result.now in
    let row : ℕ × Cube = c.loop-cube-item.result in
    All-more HasACube rows c.loop-cube.cube-index row (omega arith) c.loop-cube.invariant
    (subst HasACube c.loop-cube-item.is c.len-len.ensures.cube)

pub invariant_of-result : goal.invariant_of-result
invariant_of-result c =
    let HasACube : ℕ × Cube → Type 0 = λ r. IsCube r.1 in
    let rows : List (ℕ × Cube) = c.deref-cube-items.result.now in
    let kept : List (ℕ × Cube) = c.drop_repeated.new.rows.items in
    let cubes : All HasACube rows = all_whole HasACube rows c.loop-cube.cube-index (omega arith) c.loop-cube.invariant in (
      kept_events c.args.rows.items kept c.in_ok-drop_repeated.ensures.kept (subst (All HasACube) c.deref-cube-items.ensures.value cubes),
      omega (arith, c.drop_repeated.ensures.fewer, c.requires.short, c.args.rows.ok.0, c.drop_repeated.new.rows.ok.0),
    )
