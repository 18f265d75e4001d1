use Rattle.std.proofs.Common.{◌≡◌, take}
use Rattle.pop_instance.specs.Index.{IsPut}
use Rattle.pop_instance.proofs.index.push_at_each.Given as goal

-- the place is put at the variables up to here, and the rooms are as they were
abbrev pub invariant-loop-i : goal.invariant-loop-i
invariant-loop-i l = record {
  put : IsPut (take l.i l.cube) l.place l.fn.rows.rows l.rows.rows;
  rooms : l.rows.rooms ≡ l.fn.rows.rooms;
}
