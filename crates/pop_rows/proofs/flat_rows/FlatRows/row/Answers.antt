use Rattle.std.proofs.Common.{◌≡◌, ◌<◌, arith, sym, ap, ap₂, ◌∙◌, length, get_or, slice_range}
use Rattle.std.proofs.lemmas.List.{get_or_default}
use Rattle.pop_rows.specs.FlatRows.{row_at}
use Rattle.pop_rows.proofs.PushedRows.{length-rows_in, row_is, end_within}
use Rattle.pop_rows.proofs.flat_rows.FlatRows.row.Goals as goal
use Rattle.pop_rows.proofs.flat_rows.FlatRows.row.Goals.{After-index-2}

pub index-requires : goal.index-requires
index-requires c =
    let a = c.self.inside in
    let count = c.self.invariant.count in
    let rows = length-rows_in a.starts.items a.ends.items a.items.items c.self.invariant in
    omega (arith, a.starts.ok.0, count, rows, ap (λ f. length f.rows) c.self.view_is, c.requires)

pub index-requires-2 : goal.index-requires-2
index-requires-2 c =
    let a = c.self.inside in
    let rows = length-rows_in a.starts.items a.ends.items a.items.items c.self.invariant in
    omega (arith, a.ends.ok.0, rows, ap (λ f. length f.rows) c.self.view_is, c.requires)

-- the row is there
there : (c : After-index-2) → c.args.row < length c.self.inside.ends.items
there c =
    let a = c.self.inside in
    let rows = length-rows_in a.starts.items a.ends.items a.items.items c.self.invariant in
    omega (arith, rows, ap (λ f. length f.rows) c.self.view_is, c.requires)

-- its start was read
start_is : (c : After-index-2) → c.index.result.now ≡ get_or c.self.inside.starts.items c.args.row 0
start_is c =
    let count = c.self.invariant.count in
    c.index.ensures
    ∙ get_or_default c.self.inside.starts.items c.args.row c.index.result.now 0 (omega (arith, count, there c))

-- and its end
end_is : (c : After-index-2) → c.index-2.result.now ≡ get_or c.self.inside.ends.items c.args.row 0
end_is c =
    c.index-2.ensures ∙ get_or_default c.self.inside.ends.items c.args.row c.index-2.result.now 0 (there c)

pub part-requires-clause-begun : goal.part-requires-clause-begun
part-requires-clause-begun c =
    let before = (goal.at.part-requires-clause-begun c).After-index-2 in
    omega (arith, c.self.invariant.begun c.args.row (there before), start_is before, end_is before)

pub part-requires-clause-within : goal.part-requires-clause-within
part-requires-clause-within c =
    let a = c.self.inside in
    let before = (goal.at.part-requires-clause-within c).After-index-2 in
    omega (
      arith,
      end_within a.starts.items a.ends.items a.items.items c.self.invariant c.args.row (there before),
      end_is before,
      ap length c.deref.ensures.value,
    )

pub returns : goal.returns
returns c =
    let a = c.self.inside in
    let before = (goal.at.returns c).After-index-2 in
    c.part.ensures ∙ ap (λ xs. slice_range xs c.index.result.now c.index-2.result.now) c.deref.ensures.value
    ∙ ap₂ (slice_range a.items.items) (start_is before) (end_is before)
    ∙ sym (row_is a.starts.items a.ends.items a.items.items c.self.invariant c.args.row (there before))
    ∙ ap (λ f. row_at f.rows c.args.row) c.self.view_is
