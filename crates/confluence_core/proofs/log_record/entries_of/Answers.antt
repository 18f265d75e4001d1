use Rattle.std.proofs.Common.{◌≡◌, ◌<◌, ◌+◌, ◌∷◌, ◌++◌, [], ℕ, List, Some, length, take, ap, ap₂, sym, ◌∙◌, get_or, arith}
use Rattle.std.specs.List.{slice_get}
use Rattle.std.proofs.lemmas.List.{map_more, take_all}
use Rattle.std.proofs.lemmas.Option.{get_or_from_slice_get, slice_get_within}
use Rattle.pop_model.specs.Popping.{Cube, cursor}
use Rattle.pop_model.specs.Logs.{entries_at}
use Rattle.pop_model.proofs.Members.{all_at}
use Rattle.confluence_core.proofs.log_record.entries_of.Goals as goal

-- one entry more, of the next pair
entries_more : (at : List ℕ) (e : Cube) (i : ℕ) (pair : ℕ × ℕ) (entry : ℕ) (old new : List ℕ)
    → slice_get e i ≡ Some pair → entry ≡ cursor at pair.0 → old ≡ entries_at at (take i e) → new ≡ old ++ entry ∷ []
    → new ≡ entries_at at (take (i + 1) e)
entries_more at e i pair entry old new read is before more =
    let entry_of : ℕ × ℕ → ℕ = λ p. cursor at p.0 in
    let here : entry ≡ entry_of (get_or e i pair) = is
    ∙ ap entry_of (sym (get_or_from_slice_get e i pair pair read)) in
    more ∙ ap₂ (λ (xs : List ℕ) (x : ℕ). xs ++ x ∷ []) before here
    ∙ sym (map_more entry_of e i pair (slice_get_within e i pair read))

pub get-requires : goal.get-requires
get-requires c = record {
  known = all_at (λ (p : ℕ × ℕ). p.0 < length c.args.cursors.now) c.args.cube.now c.loop-i.i c.pair-v.result
      c.pair-v.ensures c.requires.known;
}

pub loop-i-preserved : goal.loop-i-preserved
loop-i-preserved c =
    entries_more c.args.cursors.now c.args.cube.now c.loop-i.i c.pair-v.result c.get.result c.loop-i.entries.items
    c.push.new.self.items c.pair-v.ensures c.get.ensures c.loop-i.invariant c.in_ok-push.ensures.items

pub returns : goal.returns
returns c =
    c.loop-i.invariant ∙ ap (entries_at c.args.cursors.now)
    (take_all c.loop-i.i c.args.cube.now (omega (arith, c.loop-i-test.false, c.len-i-end.ensures)))
