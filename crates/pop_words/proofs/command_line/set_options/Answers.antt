use Rattle.std.proofs.Common.{◌≡◌, ◌+◌, ◌∷◌, [], ◌++◌, drop, map, option_map, string_bytes, sym, ap, ◌∙◌, arith, subst}
use Rattle.std.proofs.lemmas.List.{map-append}
use Rattle.pop_words.specs.Settings.{sets}
use Rattle.pop_words.specs.Reading.{seen}
use Rattle.pop_words.proofs.OptionsSoFar.{IsUnderway, underway_at_first, at_word, name_refused, value_refused, value_set, next_option_is, value_is}
use Rattle.pop_words.proofs.command_line.set_options.Goals as goal

pub loop-place-init : goal.loop-place-init
loop-place-init c =
    let words = map string_bytes c.args.words.now in
    rw (c.new-chosen.ensures.items, c.requires.job) (underway_at_first c.args.command words)

pub returns-in_default-clause-fault : goal.returns-in_default-clause-fault
returns-in_default-clause-fault c =
    let name = at_word c.args.words.now c.loop-place.place c.index-words-place.result c.loop-place-test.true
    c.index-words-place.is in
    name_refused c.args.command _ _ _ c.loop-place.place (string_bytes c.index-words-place.result) _
    c.loop-place.invariant name
    (next_option_is c.args.command _ _ _ _ _ (ap (map seen) c.deref.ensures.value)
    c.as_str.ensures.value c.in_default.ensures)

pub returns-in-None-clause-fault : goal.returns-in-None-clause-fault
returns-in-None-clause-fault c =
    let name = at_word c.args.words.now c.loop-place.place c.index-words-place.result c.loop-place-test.true
    c.index-words-place.is in
    let value = at_word c.args.words.now (c.loop-place.place + 1) c.index-words-place-in-loop-place.result
    (omega arith) c.index-words-place-in-loop-place.is in
    value_refused c.args.command _ _ _ c.loop-place.place (string_bytes c.index-words-place.result)
    (string_bytes c.index-words-place-in-loop-place.result) _
    (seen c.in-Some.option) c.loop-place.invariant
    (name ∙ ap (λ l. string_bytes c.index-words-place.result ∷ l) value)
    (next_option_is c.args.command _ _ _ _ _ (ap (map seen) c.deref.ensures.value)
    c.as_str.ensures.value c.in-Some.ensures)
    (value_is c.in-Some.option.field _ _ _ c.as_bytes.ensures.value c.in_ok-setting.ensures
    ∙ ap (option_map sets) c.in-None.is)

pub loop-place-preserved : goal.loop-place-preserved
loop-place-preserved c =
    let words = map string_bytes c.args.words.now in
    let name = at_word c.args.words.now c.loop-place.place c.index-words-place.result c.loop-place-test.true
    c.index-words-place.is in
    let value = at_word c.args.words.now (c.loop-place.place + 1) c.index-words-place-in-loop-place.result
    (omega arith) c.index-words-place-in-loop-place.is in
    let two : c.loop-place.place + 1 + 1 ≡ c.loop-place.place + 2 = omega arith in
    let next = value_set c.args.command words _ _ c.loop-place.place (string_bytes c.index-words-place.result)
    (string_bytes c.index-words-place-in-loop-place.result) _
    (seen c.in-Some.option) (sets c.in-Some-2.setting) c.loop-place.invariant (name
    ∙ ap (λ l. string_bytes c.index-words-place.result ∷ l) value) (ap (λ n. drop n words) two)
    (next_option_is c.args.command _ _ _ _ _ (ap (map seen) c.deref.ensures.value)
    c.as_str.ensures.value c.in-Some.ensures)
    (value_is c.in-Some.option.field _ _ _ c.as_bytes.ensures.value c.in_ok-setting.ensures
    ∙ ap (option_map sets) c.in-Some-2.is) in
    let job = subst (λ j. IsUnderway c.args.command words
    (map seen c.loop-place.chosen.items ++ seen c.in-Some.option ∷ []) j (c.loop-place.place + 2)) (sym c.set.ensures) next in
    rw c.in_ok-push.ensures.items (subst (λ l. IsUnderway c.args.command words l c.set.new.self
    (c.loop-place.place + 2)) (sym (map-append seen c.loop-place.chosen.items (c.in-Some.option ∷ []))) job)
