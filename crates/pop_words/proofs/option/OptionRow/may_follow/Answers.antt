use Rattle.std.proofs.Common.{map, ◌&&◌, rules, sym, ap, ◌∙◌}
use Rattle.std.specs.List.{list_all}
use Rattle.std.proofs.lemmas.Iterator.{YieldsList-from_slice}
use Rattle.std.proofs.lemmas.Iterator.Search.{all_from_yields_List}
use Rattle.std.proofs.lemmas.List.Folds.{list_all-map}
use borrow.Author.Tests.{tests}
use Rattle.pop_words.specs.Reading.{seen, compatible}
use Rattle.pop_words.proofs.option.OptionRow.may_follow.Goals as goal

pub returns-then-allows : goal.returns-then-allows
returns-then-allows c =
    all_from_yields_List (λ r. compatible (seen r) (seen c.args.self.now)) _ _ c.all.result c.all.ensures.ran
    (YieldsList-from_slice c.args.before.now c.iter.ensures.rest) (λ x b q k. search (rules, tests))
    ∙ sym (list_all-map (λ o. compatible o (seen c.args.self.now)) seen c.args.before.now)
    ∙ ap (λ b. b && list_all (λ o. compatible o (seen c.args.self.now)) (map seen c.args.before.now))
    (sym (sym c.allows.ensures ∙ c.if-allows.true))
