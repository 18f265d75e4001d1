use Rattle.std.proofs.Common.{leb, rules}
use Rattle.std.proofs.lemmas.List.{take_rest}
use Rattle.std.proofs.lemmas.List.Sorted.{IsPartitionPoint-from_clause, IsPartitionedBy-leb}
use Rattle.extremal_check.proofs.LaterPlaces.{does_not_fall, later_from}
use Rattle.extremal_check.proofs.least_clash.places_after.Goals as goal

pub returns : goal.returns
returns c =
    let row = c.args.row.now in
    let i = c.args.i in
    let start = c.partition_point-start.result in
    let parted = IsPartitionedBy-leb (λ y. y) row i (does_not_fall row c.requires.rising) in
    let found = c.partition_point-start.ensures in
    let point =
    IsPartitionPoint-from_clause (λ y. leb y i) _ _ found.partitioned parted (λ a r q k. search rules) in
    record { later = rw (take_rest row start) (later_from row i start found.bound point) }
