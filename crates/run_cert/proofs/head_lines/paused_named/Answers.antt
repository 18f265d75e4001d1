use Rattle.std.proofs.Common.{rules, ◌∙◌}
use Rattle.std.proofs.lemmas.Iterator.{YieldsList-from_slice}
use Rattle.std.proofs.lemmas.Iterator.Search.{find_from_yields_List}
use Rattle.std.specs.Str.{bytes_eq}
use borrow.Author.Tests.{tests}
use Rattle.pop_words.specs.Options.{command_word, paused}
use Rattle.run_cert.proofs.head_lines.paused_named.Goals as goal

pub returns : goal.returns
returns c =
    c.copied.ensures
    ∙ find_from_yields_List (λ o. bytes_eq (command_word o) c.args.word.now) _ _ c.find.result c.find.ensures.ran
    (YieldsList-from_slice paused c.iter.ensures.rest) (λ x b q k. search (rules, tests))
