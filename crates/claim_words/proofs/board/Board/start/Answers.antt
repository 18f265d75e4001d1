use Rattle.std.proofs.Common.{ℕ, ap, sym, ◌∙◌, subst, ◌≡◌, ◌^◌, ◌<◌, [], ◌∷◌, ◌++◌, replicate, get_or}
use Rattle.pop_model.specs.Stacks.{variables_of, height_of}
use Rattle.pop_model.specs.Instances.{Instance, FamilyFits}
use Rattle.claim_words.specs.Openings.{marks, marks_in}
use Rattle.claim_words.proofs.StartMeetsRule.{opens, starts}
use Rattle.claim_words.proofs.board.Board.start.Goals as goal

pub of_words-made-requires : goal.of_words-made-requires
of_words-made-requires c =
    let k = c.of-opening.result in
    let i = c.args.instance.now in
    let from = c.args.from.now in
    let is : i ≡ k.instance.value = sym c.of-opening.ensures.instance in
    let table = c.units-units.ensures.instance.table in
    let low : (v : ℕ) → v < variables_of i.stacks
    → (get_or from v 0 < height_of i.stacks v) × (height_of i.stacks v < 2 ^ 31) =
    λ v h. (c.requires.within v h, table.heights v) in
    let counted : c.marks_in-marks.result ≡ marks k =
    c.marks_in-marks.ensures.marks ∙ ap (λ (i : Instance). marks_in i.family) is in
    let words = c.deref.ensures.value ∙ c.in_ok-words.ensures
    ∙ ap (λ (n : ℕ). (0 ∷ from) ++ replicate n 1) counted in
    starts k _ [] (opens k _ from words c.of-opening.ensures.start
    (c.requires.count ∙ ap (λ (i : Instance). variables_of i.stacks) is)
    (subst (λ (i : Instance). variables_of i.stacks < 2 ^ 31) is table.count)
    (subst (λ (i : Instance). FamilyFits i.stacks i.family) is c.units-units.ensures.instance.fits)
    (subst (λ (i : Instance). (v : ℕ) → v < variables_of i.stacks
    → (get_or from v 0 < height_of i.stacks v) × (height_of i.stacks v < 2 ^ 31)) is low))
