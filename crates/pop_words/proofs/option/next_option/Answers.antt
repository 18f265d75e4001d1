use Rattle.std.proofs.Common.{rules, ◌≡◌, map, option_map, sym, ap, ◌∙◌}
use Rattle.pop_words.specs.Values.{only_if}
use Rattle.pop_words.specs.Reading.{seen, may_follow}
use Rattle.pop_words.proofs.SeenLists.{only_if-map}
use Rattle.pop_words.proofs.option.next_option.Goals as goal

pub returns : goal.returns
returns c =
    let before = map seen c.args.before.now in
    let filtered : c.filter.result ≡ only_if (λ r. may_follow c.args.command before (seen r)) c.named.result =
    search rules in
    ap (option_map seen) filtered ∙ sym (only_if-map (may_follow c.args.command before) seen c.named.result)
    ∙ ap (only_if (may_follow c.args.command before)) c.named.ensures
