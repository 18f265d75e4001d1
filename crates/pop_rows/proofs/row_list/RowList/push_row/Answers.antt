use Rattle.std.proofs.Common.{◌≡◌, ◌+◌, ◌++◌, ◌∷◌, ◌<◌, ◌^◌, [], ap, ap₂, ◌∙◌, arith, length, rules}
use Rattle.pop_rows.specs.RowList.{rows_between}
use Rattle.pop_rows.proofs.RowsEndToEnd.{rows_added, added_laid}
use Rattle.pop_rows.proofs.row_list.RowList.push_row.Goals as goal
use Rattle.pop_rows.proofs.row_list.RowList.push_row.Goals.{Else-is_err}

-- the new end is that of the items with the row
end_is : (c : Else-is_err) → c.in-Some.end ≡ length c.self.inside.items.items + length c.args.row.now
end_is c = omega (arith, c.in-Some.ensures.end, ap length c.deref-2.ensures.value)

-- it is the last of the starts
starts_are : (c : Else-is_err) → c.push.new.self.items ≡ c.self.inside.starts.items ++ c.in-Some.end ∷ []
starts_are c = search rules

-- and the row the last of the items
items_are : (c : Else-is_err) → c.extend_from_slice.new.self.items ≡ c.self.inside.items.items ++ c.args.row.now
items_are c = search rules

-- another start fits
few : (c : Else-is_err) → length c.self.inside.starts.items < 2 ^ 32
few c = omega (arith, c.in-Some.ensures.few, ap length c.deref.ensures.value)

pub invariant_of-self-else-is_err : goal.invariant_of-self-else-is_err
invariant_of-self-else-is_err c =
    let a = c.self.inside in
    rw (starts_are c, items_are c)
    (added_laid a.starts.items a.items.items c.self.invariant c.args.row.now c.in-Some.end (end_is c) (few c)
    (omega arith))

pub returns-clause-added : goal.returns-clause-added
returns-clause-added c =
    let a = c.self.inside in
    ap₂ rows_between (starts_are c) (items_are c)
    ∙ rows_added a.starts.items a.items.items c.self.invariant c.args.row.now c.in-Some.end (end_is c)
    (few c) (omega arith)
    ∙ ap (λ rows. rows ++ c.args.row.now ∷ []) c.self.view_is
