use Rattle.std.proofs.Common.{ℕ, List, None, Some, codes, ◌∷◌, []}
use Rattle.std.proofs.lemmas.Bool.Decides.{Decides-eqb}
use Rattle.std.proofs.lemmas.Slice.Eq.{strip_prefix_is}
use Rattle.pop_log.proofs.RecordWordsLemmas.{no_layer_0, no_space}
use Rattle.pop_log.proofs.record_words.cut_layer.Goals as goal

pub returns-then-layer-eq0 : goal.returns-then-layer-eq0
returns-then-layer-eq0 c =
    let line : List ℕ = c.args.line.now in
    let text = c.in-Some.text in
    no_layer_0 line text.now c.in-Some-front_number.layer c.in-Some-front_number.behind.now
    (strip_prefix_is Decides-eqb line (codes "pop ") (Some text) c.in-Some.ensures.cases)
    c.in-Some-front_number.ensures c.if-layer-eq0.true

pub returns-in_default-strip_prefix : goal.returns-in_default-strip_prefix
returns-in_default-strip_prefix c =
    let line : List ℕ = c.args.line.now in
    let text = c.in-Some.text in
    no_space line text.now c.in-Some-front_number.layer c.in-Some-front_number.behind.now
    (strip_prefix_is Decides-eqb line (codes "pop ") (Some text) c.in-Some.ensures.cases)
    c.in-Some-front_number.ensures
    (strip_prefix_is Decides-eqb c.in-Some-front_number.behind.now (32 ∷ []) None c.in_default-strip_prefix.ensures.cases)
