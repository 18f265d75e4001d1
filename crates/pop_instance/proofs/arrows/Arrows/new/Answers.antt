use Rattle.std.proofs.Common.{◌≡◌, ℕ, List, Option, Vec, length, sym, subst, arith, All, refl}
use Rattle.std.proofs.lemmas.List.{length-map}
use Rattle.pop_instance.specs.Arrows.{IsRow, heads_of}
use Rattle.pop_instance.proofs.HeadRows.{sound_rows, arrows_of_rows}
use Rattle.pop_instance.proofs.arrows.Arrows.new.Goals as goal

-- each row is sound
abbrev AreSound : {A : Type 0} → List (Vec (Option ℕ) A) → Type 0
AreSound rows = All (IsRow (length rows)) (heads_of rows)

moved : {A : Type 0} (rows rows' : List (Vec (Option ℕ) A)) → rows ≡ rows' → AreSound rows → AreSound rows'
moved rows rows' same sound = subst AreSound same sound

pub returns-then-not-are_rows : goal.returns-then-not-are_rows
returns-then-not-are_rows c are =
    let heads = c.args.heads.items in
    let sound = sound_rows (heads_of heads) (length heads) (length-map heads (λ row. row.items)) are in
    let is = c.if-not-are_rows.ensures.1
    (moved heads c.deref.result.now (sym c.deref.ensures.value) sound) in
    cc

pub invariant_of-result : goal.invariant_of-result
invariant_of-result c =
    let heads = c.args.heads.items in
    let sound = moved c.deref.result.now heads c.deref.ensures.value (c.if-not-are_rows.ensures.0 refl) in
    let size = length-map heads (λ row. row.items) in (
      arrows_of_rows (heads_of heads) (length heads) size sound,
      omega (arith, size, c.requires.short),
      c.requires.short_rows,
    )
