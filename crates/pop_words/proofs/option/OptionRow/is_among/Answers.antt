use Rattle.std.proofs.Common.{rules, sym, ◌∙◌}
use Rattle.std.proofs.lemmas.Iterator.{YieldsList-from_slice}
use Rattle.std.proofs.lemmas.Iterator.Search.{any_from_yields_List}
use borrow.Author.Tests.{tests}
use Rattle.pop_words.specs.Reading.{seen, same_name}
use Rattle.pop_words.proofs.SeenLists.{list_any-map}
use Rattle.pop_words.proofs.option.OptionRow.is_among.Goals as goal

pub returns : goal.returns
returns c =
    any_from_yields_List (λ r. same_name (seen c.args.self.now) (seen r)) _ _ _ c.any.ensures.ran
    (YieldsList-from_slice c.args.chosen.now c.iter.ensures.rest) (λ x b q k. search (rules, tests))
    ∙ sym (list_any-map (same_name (seen c.args.self.now)) seen c.args.chosen.now)
