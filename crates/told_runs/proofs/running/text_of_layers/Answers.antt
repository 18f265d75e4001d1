use Rattle.std.proofs.Common.{List, ℕ, ◌++◌, ap, ◌∙◌}
use Rattle.told_runs.proofs.ToldRuns.{told_behind}
use Rattle.told_runs.proofs.running.text_of_layers.Goals as goal

pub returns : goal.returns
returns g c log sorted =
    let named = c.args.named.now in
    told_behind c.args.asked _ named.names.now named.instance.now log c.args.placed.now c.in_ok-told.told.missing
    c.args.text.items c.in_ok-bytes.bytes.items c.in_ok-told.told.bytes.items _ sorted c.in_ok-bytes.ensures
    c.in_ok-told.ensures
    (c.in_ok-extend_from_slice.ensures.items
    ∙ ap (λ (l : List ℕ). c.in_ok-bytes.bytes.items ++ l) c.deref.ensures.value)
