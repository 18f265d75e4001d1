use Rattle.std.proofs.Common.{rules, option_map, map, refl, sym, ap, ◌∙◌}
use Rattle.std.proofs.lemmas.Iterator.{YieldsList-from_slice}
use Rattle.std.proofs.lemmas.Iterator.Search.{find_from_yields_List}
use Rattle.std.specs.Str.{bytes_eq}
use Rattle.std.specs.List.{find}
use borrow.Author.Tests.{tests}
use Rattle.pop_words.specs.Reading.{seen}
use Rattle.pop_words.proofs.SeenLists.{find-map}
use Rattle.pop_words.proofs.option.OptionRow.named.Goals as goal

pub returns : goal.returns
returns c =
    ap (option_map seen) (c.copied.ensures
    ∙ find_from_yields_List (λ r. bytes_eq r.name.now c.args.name.now) _ _ c.find.result c.find.ensures.ran
    (YieldsList-from_slice c.iter.result.rest.now refl) (λ x b q k. search (rules, tests)))
    ∙ sym (find-map (λ o. bytes_eq o.name c.args.name.now) seen c.iter.result.rest.now)
    ∙ ap (λ l. find (λ o. bytes_eq o.name c.args.name.now) (map seen l)) c.iter.ensures.rest
