use Rattle.std.proofs.Common.{◌≡◌, arith, sym, ap, ◌∙◌, subst, get_or}
use Rattle.pop_rows.specs.FlatRows.{HasRoom, push_at}
use Rattle.pop_rows.specs.Layout.{roomy_rows}
use Rattle.pop_rows.proofs.PushedRows.{row_there, end_read, place_within, pushed_rows, pushed_laid}
use Rattle.pop_rows.proofs.flat_rows.FlatRows.push.Goals as goal
use Rattle.pop_rows.proofs.flat_rows.FlatRows.push.Goals.{After-index-end}

pub index-end-requires : goal.index-end-requires
index-end-requires c =
    let a = c.self.inside in
    let room = subst (λ f. HasRoom f c.args.row) (sym c.self.view_is) c.requires in
    omega (arith, a.ends.ok.0, row_there a.starts.items a.ends.items a.items.items c.self.invariant c.args.row room)

-- the row has room
has_room : (c : After-index-end)
    → HasRoom (roomy_rows c.self.inside.starts.items c.self.inside.ends.items c.self.inside.items.items) c.args.row
has_room c = subst (λ f. HasRoom f c.args.row) (sym c.self.view_is) c.requires

-- its end was read
end_is : (c : After-index-end) → get_or c.self.inside.ends.items c.args.row 0 ≡ c.index-end.result.now
end_is c =
    let a = c.self.inside in
    end_read a.starts.items a.ends.items a.items.items c.self.invariant c.args.row c.index-end.result.now (has_room c)
    c.index-end.ensures

pub index_mut-requires : goal.index_mut-requires
index_mut-requires c =
    let a = c.self.inside in
    let before = (goal.at.index_mut-requires c).After-index-end in
    omega (
      arith,
      a.items.ok.0,
      place_within a.starts.items a.ends.items a.items.items c.self.invariant
          c.args.row c.args.x c.index-end.result.now (end_is before) (has_room before),
    )

pub overflow_add-end : goal.overflow_add-end
overflow_add-end c =
    let a = c.self.inside in
    let before = (goal.at.overflow_add-end c).After-index-end in
    omega (
      arith,
      c.self.invariant.short,
      place_within a.starts.items a.ends.items a.items.items c.self.invariant
          c.args.row c.args.x c.index-end.result.now (end_is before) (has_room before),
    )

pub index_mut-requires-2 : goal.index_mut-requires-2
index_mut-requires-2 c =
    let a = c.self.inside in
    let before = (goal.at.index_mut-requires-2 c).After-index-end in
    omega (
      arith,
      a.ends.ok.0,
      row_there a.starts.items a.ends.items a.items.items c.self.invariant c.args.row
          (has_room before),
    )

pub invariant_of-self : goal.invariant_of-self
invariant_of-self c =
    let a = c.self.inside in
    let before = (goal.at.invariant_of-self c).After-index-end in
    pushed_laid a.starts.items a.ends.items a.items.items c.self.invariant c.args.row c.args.x
    c.index-end.result.now (end_is before) (has_room before)

pub returns-clause-rows : goal.returns-clause-rows
returns-clause-rows c =
    let a = c.self.inside in
    let before = (goal.at.returns-clause-rows c).After-index-end in
    pushed_rows a.starts.items a.ends.items a.items.items c.self.invariant c.args.row c.args.x
    c.index-end.result.now (end_is before) (has_room before)
    ∙ ap (λ f. push_at f.rows c.args.row c.args.x) c.self.view_is
