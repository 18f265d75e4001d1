use Rattle.std.proofs.Common.{◌≡◌, ◌+◌, ◌<◌, ap, ap₂, sym, ◌∙◌, arith, length, get_or, slice_range}
use Rattle.std.proofs.lemmas.List.{get_or_default}
use Rattle.pop_rows.specs.FlatRows.{row_at}
use Rattle.pop_rows.proofs.RowsEndToEnd.{row_there, row_is, start_within}
use Rattle.pop_rows.proofs.row_list.RowList.row.Goals as goal
use Rattle.pop_rows.proofs.row_list.RowList.row.Goals.{After-index-2}

pub index-requires : goal.index-requires
index-requires c =
    let a = c.self.inside in
    let there = row_there a.starts.items a.items.items c.args.self.now c.args.v c.self.view_is c.requires.known in
    omega (arith, a.starts.ok.0, there)

pub index-requires-2 : goal.index-requires-2
index-requires-2 c =
    let a = c.self.inside in
    let there = row_there a.starts.items a.items.items c.args.self.now c.args.v c.self.view_is c.requires.known in
    omega (arith, a.starts.ok.0, there)

-- the row is there
there : (c : After-index-2) → c.args.v + 1 < length c.self.inside.starts.items
there c =
    let a = c.self.inside in
    row_there a.starts.items a.items.items c.args.self.now c.args.v c.self.view_is c.requires.known

-- its start was read
start_is : (c : After-index-2) → c.index.result.now ≡ get_or c.self.inside.starts.items c.args.v 0
start_is c =
    let below = there c in
    c.index.ensures ∙ get_or_default c.self.inside.starts.items c.args.v c.index.result.now 0 (omega (arith, below))

-- and the next one
end_is : (c : After-index-2) → c.index-2.result.now ≡ get_or c.self.inside.starts.items (c.args.v + 1) 0
end_is c =
    c.index-2.ensures
    ∙ get_or_default c.self.inside.starts.items (c.args.v + 1) c.index-2.result.now 0 (there c)

pub part-requires-clause-begun : goal.part-requires-clause-begun
part-requires-clause-begun c =
    let before = (goal.at.part-requires-clause-begun c).After-index-2 in
    omega (arith, c.self.invariant.rising c.args.v (there before), start_is before, end_is before)

pub part-requires-clause-within : goal.part-requires-clause-within
part-requires-clause-within c =
    let a = c.self.inside in
    let before = (goal.at.part-requires-clause-within c).After-index-2 in
    omega (
      arith,
      start_within a.starts.items a.items.items c.self.invariant (c.args.v + 1) (there before),
      end_is before,
      ap length c.deref.ensures.value,
    )

pub returns-clause-row : goal.returns-clause-row
returns-clause-row c =
    let a = c.self.inside in
    let before = (goal.at.returns-clause-row c).After-index-2 in
    let below = there before in
    c.part.ensures ∙ ap (λ xs. slice_range xs c.index.result.now c.index-2.result.now) c.deref.ensures.value
    ∙ ap₂ (slice_range a.items.items) (start_is before) (end_is before)
    ∙ sym (row_is a.starts.items a.items.items c.args.v (omega (arith, below)))
    ∙ ap (λ rows. row_at rows c.args.v) c.self.view_is
