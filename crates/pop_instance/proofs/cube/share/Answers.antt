use Rattle.std.proofs.Common.{rules, ◌≡◌, ℕ, true, false, refl, sym, ◌∙◌, arith, get_or, All}
use Rattle.std.proofs.lemmas.List.Elements.{Contains-get_or, All-contains}
use Rattle.pop_model.specs.Popping.{names}
use Rattle.pop_model.proofs.Diamond.{named, names_it}
use Rattle.pop_model.proofs.Members.{all_whole}
use Rattle.pop_instance.proofs.cube.share.Goals as goal

pub returns-then-has : goal.returns-then-has
returns-then-has c =
    let p : ℕ × ℕ = get_or c.args.pairs.now c.loop-v.v-index (0, 0) in
    let e = c.if-has.ensures in
    let there : names c.args.others.now p.0 ≡ true = sym e in
    let x = named c.args.others.now p.0 there in
    (λ yes'. (p.0, p.1, x.0, Contains-get_or c.args.pairs.now c.loop-v.v-index (0, 0) (omega arith), x.1), λ h. refl)

pub returns : goal.returns
returns c =
    let P : ℕ × ℕ → Type 0 = λ p. names c.args.others.now p.0 ≡ false in
    let none : All P c.args.pairs.now = all_whole P c.args.pairs.now c.loop-v.v-index
    (omega arith) c.loop-v.invariant in (
      λ yes'. absurd (search rules),
      λ (v, x, y, here, there).
          let yes : names c.args.others.now v ≡ true = names_it c.args.others.now (v, y) there in
          let no : names c.args.others.now v ≡ false = All-contains P c.args.pairs.now (v, x) none here in
          sym no ∙ yes,
    )
