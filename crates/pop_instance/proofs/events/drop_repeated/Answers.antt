use Rattle.std.proofs.Common.{subst}
use Rattle.pop_instance.proofs.Digests.{differ_kept, HaveDifferentDigests}
use Rattle.pop_instance.proofs.events.drop_repeated.Goals as goal

-- the digests differ, so the rows stay
pub returns-else-not-branch-clause-kept : goal.returns-else-not-branch-clause-kept
returns-else-not-branch-clause-kept c =
    let differ : HaveDifferentDigests c.deref.result.now =
    c.in_ok-digests_differ.ensures.0 c.if-not-branch.false in
    differ_kept c.args.rows.now.items c.requires (subst HaveDifferentDigests c.deref.ensures.value differ)
