use Rattle.std.proofs.Common.{rules, sym, ◌∙◌}
use Rattle.std.specs.Str.{bytes_eq}
use Rattle.std.proofs.lemmas.Iterator.{YieldsList-from_slice}
use Rattle.std.proofs.lemmas.Iterator.Search.{any_from_yields_List}
use borrow.Author.Tests.{tests}
use Rattle.pop_words.proofs.SeenLists.{list_any-map}
use Rattle.pop_words.proofs.option.OptionRow.excludes.Goals as goal

pub returns : goal.returns
returns c =
    any_from_yields_List (λ n. bytes_eq c.args.name.now n.now) _ _ _ c.any.ensures.ran
    (YieldsList-from_slice c.args.self.now.excludes.now c.iter.ensures.rest) (λ x b q k. search (rules, tests))
    ∙ sym (list_any-map (bytes_eq c.args.name.now) (λ n. n.now) c.args.self.now.excludes.now)
