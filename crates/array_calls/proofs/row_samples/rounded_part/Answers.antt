use Rattle.std.proofs.Common.{◌≡◌, List, ℕ, [], ◌∷◌, length, ap, sym, subst, ◌∙◌}
use Rattle.std.proofs.lemmas.List.{length-replicate}
use Rattle.pop_model.specs.Popping.{AreWithin}
use Rattle.pop_model.specs.Stacks.{stacks_for, variables_of}
use Rattle.array_calls.proofs.RoundParts.{starts_within}
use Rattle.array_calls.proofs.RowParts.{rounded_row}
use Rattle.array_calls.proofs.row_samples.rounded_part.Goals as goal

pub first_cursors-requires : goal.first_cursors-requires
first_cursors-requires c = record {
  count = ap (λ (w : List (List ℕ)). length w) c.requires.pairs.is ∙ length-replicate c.args.count (1 ∷ 1 ∷ []);
}

pub run_from-requires-clause-count : goal.run_from-requires-clause-count
run_from-requires-clause-count c =
    let a = c.args in
    subst (λ (cursors : List ℕ). variables_of a.samples.now.stacks ≡ length cursors) (sym c.in_ok-start.ensures)
    (starts_within a.samples.now a.j a.from c.requires.tall c.requires.start).0

pub run_from-requires-clause-within : goal.run_from-requires-clause-within
run_from-requires-clause-within c =
    let a = c.args in
    subst (λ (cursors : List ℕ). AreWithin (stacks_for a.j a.samples.now.stacks) cursors) (sym c.in_ok-start.ensures)
    (starts_within a.samples.now a.j a.from c.requires.tall c.requires.start).1

pub returns : goal.returns
returns c =
    let a = c.args in
    rounded_row a.samples.now a.count a.j a.from c.in_ok-start.start a.limit c.in_ok-end.end c.rounded.result
    c.has_stopped-is_open.result c.rounded.ensures c.in_ok-start.ensures c.requires.pairs c.in_ok-end.ensures c.has_stopped-is_open.ensures
