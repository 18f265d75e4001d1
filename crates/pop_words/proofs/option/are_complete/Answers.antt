use Rattle.std.proofs.Common.{rules, map, refl, sym, ap, ◌∙◌}
use Rattle.std.specs.List.{list_all}
use Rattle.std.proofs.lemmas.Iterator.{YieldsList-from_slice}
use Rattle.std.proofs.lemmas.Iterator.Search.{all_from_yields_List}
use Rattle.std.proofs.lemmas.List.Folds.{list_all-map}
use borrow.Author.Tests.{tests}
use Rattle.pop_words.specs.Reading.{seen, stands_if_needed}
use Rattle.pop_words.proofs.option.are_complete.Goals as goal

pub returns : goal.returns
returns c =
    let chosen = map seen c.args.chosen.now in
    all_from_yields_List (λ r. stands_if_needed c.args.command chosen (seen r)) _ _ c.all.result c.all.ensures.ran
    (YieldsList-from_slice c.iter.result.rest.now refl) (λ x b q k. search (rules, tests))
    ∙ sym (list_all-map (stands_if_needed c.args.command chosen) seen c.iter.result.rest.now)
    ∙ ap (λ l. list_all (stands_if_needed c.args.command chosen) (map seen l)) c.iter.ensures.rest
