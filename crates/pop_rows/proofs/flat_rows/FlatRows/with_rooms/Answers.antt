use Rattle.std.proofs.Common.{◌≡◌, take, sym, ◌∙◌, subst, arith}
use Rattle.pop_rows.specs.Layout.{AreStarts}
use Rattle.pop_rows.proofs.EmptyRows.{AreMade, made, empty_laid, empty_rooms, empty_rows}
use Rattle.pop_rows.proofs.flat_rows.FlatRows.with_rooms.Goals as goal
use Rattle.pop_rows.proofs.flat_rows.FlatRows.with_rooms.Goals.{After-copy_from_slice}

-- the fields are made of the rooms
are_made : (c : After-copy_from_slice)
    → AreMade c.args.rooms.items c.in_ok-starts.starts.items c.copy_from_slice.new.self.items c.in_ok-items.items.items
are_made c =
    let starts = c.in_ok-starts.starts.items in
    let ends = c.copy_from_slice.new.self.items in
    let items = c.in_ok-items.items in
    made c.args.rooms.items starts ends items.items c.len-count.result c.index.result.now
    (c.len-count.ensures ∙ c.args.rooms.ok.0) c.requires
    (subst (λ xs. AreStarts xs starts) c.deref.ensures.value c.in_ok-starts.ensures)
    (subst (λ xs. ends ≡ take c.len-count.result xs) c.deref-2.ensures.value c.copy_from_slice.ensures.items)
    c.index.ensures (omega arith) (sym items.ok.0 ∙ c.in_ok-items.ensures.len)

pub invariant_of-result : goal.invariant_of-result
invariant_of-result c = empty_laid c.args.rooms.items c.in_ok-starts.starts.items c.copy_from_slice.new.self.items
    c.in_ok-items.items.items (are_made c)

pub returns-clause-rooms : goal.returns-clause-rooms
returns-clause-rooms c = empty_rooms c.args.rooms.items c.in_ok-starts.starts.items c.copy_from_slice.new.self.items
    c.in_ok-items.items.items (are_made c)

pub returns-clause-empty : goal.returns-clause-empty
returns-clause-empty c = empty_rows c.args.rooms.items c.in_ok-starts.starts.items c.copy_from_slice.new.self.items
    c.in_ok-items.items.items (are_made c)
