use Rattle.std.proofs.Common.{arith}
use Rattle.std.proofs.lemmas.List.Elements.{Contains-get_or}
use Rattle.extremal_check.proofs.Trying.{none_in_row}
use Rattle.extremal_check.proofs.least_clash.least_in_row.Goals as goal

pub try_with-lowest-requires-clause-rising : goal.try_with-lowest-requires-clause-rising
try_with-lowest-requires-clause-rising c =
    (c.requires.sharing _ (Contains-get_or c.args.row.now c.loop-j.j-index 0 (omega arith))).0

pub try_with-lowest-requires-clause-within : goal.try_with-lowest-requires-clause-within
try_with-lowest-requires-clause-within c =
    (c.requires.sharing _ (Contains-get_or c.args.row.now c.loop-j.j-index 0 (omega arith))).1

pub try_with-lowest-requires-clause-share : goal.try_with-lowest-requires-clause-share
try_with-lowest-requires-clause-share c =
    (c.requires.sharing _ (Contains-get_or c.args.row.now c.loop-j.j-index 0 (omega arith))).2

pub returns-clause-none_below : goal.returns-clause-none_below
returns-clause-none_below c =
    none_in_row c.args.events.now c.args.i c.loop-j.lowest c.args.row.now c.loop-j.j-index
    c.loop-j.invariant.none_below (omega arith)
